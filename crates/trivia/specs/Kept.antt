-- What the trivia layer means: the tokens below without Skip.
use Rattle.std.specs.Prelude.{Bool, true, false, cond, List, [], ◌∷◌, ◌==◌, slice_index_or}
use Rattle.reader.specs.Tokens.{eof0}
use Rattle.token.specs.Kinds.{k_skip}
use Rattle.token.specs.declared.Token.{Token}

abbrev pub is_skip : Token → Bool
is_skip t = t.kind.code == k_skip

-- the token, with the line-break flag if it has it or b holds
abbrev pub broken : Bool → Token → Token
broken b t = record { kind = t.kind; start = t.start; end = t.end; line_break = cond b true t.line_break; name = t.name }

-- the tokens without Skip; b says that a Skip since the last kept token has the line-break flag
abbrev pub without_skips : Bool → List Token → List Token
without_skips b [] = []
without_skips b (t ∷ ts) = cond (is_skip t) (without_skips (cond b true t.line_break) ts) (broken b t ∷ without_skips false ts)

-- four tokens that are held back, and then others
abbrev pub held_before : List Token → List Token → List Token
held_before h ts = slice_index_or h 0 eof0 ∷ (slice_index_or h 1 eof0 ∷ (slice_index_or h 2 eof0 ∷ (slice_index_or h 3 eof0 ∷ ts)))
