-- The tokens of a text, and the texts that are refused.
use Rattle.std.specs.Prelude.{◌≡◌, ℕ, zero, suc, ◌+◌, ◌-◌, ◌<◌, ◌≤◌, Bool, true, cond, ◌&&◌, List, [], ◌∷◌, length, drop, is_some, nat_le, nat_lt}
use Rattle.lexeme.specs.Format.{lexeme_of, plain, token_of}
use Rattle.reader.specs.Tokens.{eof0}
use Rattle.refusal.specs.Questions.{Question, first_no}
use Rattle.token.specs.Kinds.{k_eof}
use Rattle.token.specs.declared.Token.{Token}

-- the first token of a text that begins at place p; Eof where the text is empty
abbrev pub token_at : ℕ → List ℕ → Token
token_at p bs = token_of p (lexeme_of bs)

-- the tokens of a text that begins at place p and whose first k bytes belong to the token before
abbrev pub tokens_past : ℕ → ℕ → List ℕ → List Token
tokens_past k p [] = token_at p [] ∷ []
tokens_past zero p (b ∷ bs) = token_at p (b ∷ bs) ∷ tokens_past ((lexeme_of (b ∷ bs)).size - 1) (p + 1) bs
tokens_past (suc k) p (b ∷ bs) = tokens_past k (p + 1) bs

-- the tokens of a text that begins at place p, up to Eof
abbrev pub tokens_from : ℕ → List ℕ → List Token
tokens_from p bs = tokens_past 0 p bs

-- the tokens of a text
abbrev pub lexed : List ℕ → List Token
lexed bs = tokens_from 0 bs

-- whether every byte is below 128
abbrev pub is_ascii : List ℕ → Bool
is_ascii [] = true
is_ascii (b ∷ bs) = nat_lt b 128 && is_ascii bs

-- 5: at most 65,536 bytes? 6: all below 128?
abbrev pub text_questions : List ℕ → List Question
text_questions bs = (5, nat_le (length bs) 65536) ∷ ((6, is_ascii bs) ∷ [])

-- what a reader over a text means: its tokens, or Eof at 0 alone where it is refused
abbrev pub text_meaning : List ℕ → List Token
text_meaning bs = cond (is_some (first_no (text_questions bs))) (eof0 ∷ []) (lexed bs)

-- a text that is not empty is its first token and then the rest
abbrev pub CutLaw : Type 0
CutLaw =
    (p : ℕ) (bs : List ℕ) → 0 < length bs →
    let n : ℕ = (lexeme_of bs).size in
    tokens_from p bs ≡ token_at p bs ∷ tokens_from (p + n) (drop n bs)

-- an empty text is Eof alone
abbrev pub EndLaw : Type 0
EndLaw = (p : ℕ) → tokens_from p [] ≡ token_of p (plain k_eof 0) ∷ []

-- the first token of a text that is not empty takes a byte at least, and no more than there are
abbrev pub SizeLaw : Type 0
SizeLaw = (bs : List ℕ) → 0 < length bs → (0 < (lexeme_of bs).size) × ((lexeme_of bs).size ≤ length bs)
