-- What a reader over a text means.
use Rattle.std.specs.Prelude.{ℕ, cond, List, [], ◌∷◌, drop}
use Rattle.reader.specs.Tokens.{is_eof}
use Rattle.token.specs.declared.Token.{Token}
use Rattle.text.specs.Lexed.{tokens_from}
use Rattle.text.specs.declared.Text.{Text}

-- a token, and those of the text from its end on
abbrev pub held_tokens : Token → List ℕ → List Token
held_tokens t bs = cond (is_eof t) (t ∷ []) (t ∷ tokens_from t.end (drop t.end bs))

-- the tokens that a reader is yet to give
abbrev pub text_tokens : Text → List Token
text_tokens s = held_tokens s.current s.source.bytes.now

-- the end of the last token taken
abbrev pub text_last : Text → ℕ
text_last s = s.last
