-- What the closures that a walk over tokens is handed say, each asked of a token and its depth.
use Rattle.std.specs.Prelude.{◌≡◌, ℕ, Bool, true}
use Rattle.reader.specs.Tokens.{is_eof}
use Rattle.token.specs.declared.Token.{Token}

-- it ends at Eof
abbrev pub EndsAtEof : (ℕ → Token → Bool → Type 0) → Type 0
EndsAtEof says = (d : ℕ) (t : Token) (b : Bool) → says d t b → is_eof t ≡ true → b ≡ true

-- it ends where `stops` holds
abbrev pub EndsWhere : (ℕ → Token → Bool) → (ℕ → Token → Bool → Type 0) → Type 0
EndsWhere stops says = (d : ℕ) (t : Token) (b : Bool) → says d t b → b ≡ stops d t

-- what is told is taken further by `step`
abbrev pub StepsBy : {S : Type 0} → (ℕ → Token → S → S) → (S → ℕ → Token → S → Type 0) → Type 0
StepsBy {S} step says = (s : S) (d : ℕ) (t : Token) (s' : S) → says s d t s' → s' ≡ step d t s
