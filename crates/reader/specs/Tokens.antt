-- Lists of tokens from the current one to the end of input (Eof), and what taking tokens makes of them.
use Rattle.std.specs.Prelude.{ℕ, zero, suc, Bool, true, false, cond, List, [], ◌∷◌, ◌==◌}
use Rattle.token.specs.Kinds.{k_eof}
use Rattle.token.specs.declared.Token.{Token}
use Rattle.reader.specs.declared.Ahead.{Ahead}
use Rattle.reader.specs.declared.Ahead.TheVariants.{One, Two, Three}

-- the end of an empty input
abbrev pub eof0 : Token
eof0 = record { kind = record { code = 0 }; start = 0; end = 0; line_break = false; name = 0 }

abbrev pub is_eof : Token → Bool
is_eof t = t.kind.code == k_eof

-- the current token
abbrev pub head : List Token → Token
head [] = eof0
head (t ∷ ts) = t

-- the tokens once one is taken; Eof stays
abbrev pub next : List Token → List Token
next [] = []
next (t ∷ ts) = cond (is_eof t) (t ∷ ts) ts

-- the end of the last token taken, once one more is
abbrev pub last_end : List Token → ℕ → ℕ
last_end ts n = cond (is_eof (head ts)) n (head ts).end

-- the tokens once k are taken
abbrev pub ahead : ℕ → List Token → List Token
ahead zero ts = ts
ahead (suc k) ts = ahead k (next ts)

-- the end of the last token taken, once k more are
abbrev pub last_after : ℕ → List Token → ℕ → ℕ
last_after zero ts n = n
last_after (suc k) ts n = last_after k (next ts) (last_end ts n)

-- how far a peek looks
abbrev pub distance : Ahead → ℕ
distance One = 1
distance Two = 2
distance Three = 3

abbrev pub is_nil : List Token → Bool
is_nil [] = true
is_nil (t ∷ ts) = false

-- Eof stands last, and nowhere else
abbrev pub ended : List Token → Bool
ended [] = false
ended (t ∷ ts) = cond (is_eof t) (is_nil ts) (ended ts)

-- the tokens up to the first Eof, which is added where there is none
abbrev pub closed : List Token → List Token
closed [] = eof0 ∷ []
closed (t ∷ ts) = cond (is_eof t) (t ∷ []) (t ∷ closed ts)
