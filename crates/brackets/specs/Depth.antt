-- Brackets by depth alone: any of `(` `[` `{` opens and any of `)` `]` `}` closes, so a list that `(` opened may be closed by `]`.
use Rattle.std.specs.Prelude.{ℕ, ◌+◌, ◌-◌, ◌^◌, min, Bool, cond, ◌&&◌, ◌||◌, List, [], ◌∷◌, ◌==◌}
use Rattle.reader.specs.Tokens.{is_eof}
use Rattle.token.specs.Kinds.{among, k_lbrack, k_lcurly, k_lparen, k_rbrack, k_rcurly, k_rparen}
use Rattle.token.specs.declared.Token.{Token}

abbrev pub opens : ℕ → Bool
opens k = among k (k_lparen ∷ k_lbrack ∷ k_lcurly ∷ [])

abbrev pub closes : ℕ → Bool
closes k = among k (k_rparen ∷ k_rbrack ∷ k_rcurly ∷ [])

-- Depths and counts stop at the greatest number of 32 bits. No script comes there: a token before Eof takes a byte at
-- least, and its place is itself a number of 32 bits.
abbrev pub capped : ℕ → ℕ
capped n = min n (2 ^ 32 - 1)

-- the depth after a token of kind k that stands at depth d
abbrev pub deeper : ℕ → ℕ → ℕ
deeper d k = cond (opens k) (capped (d + 1)) (cond (closes k) (d - 1) d)

-- the tokens before the first one at which `stops` holds, which is asked of each with its depth, the first at depth d
abbrev pub up_to : (ℕ → Token → Bool) → ℕ → List Token → List Token
up_to stops d [] = []
up_to stops d (t ∷ ts) = cond (stops d t) [] (t ∷ up_to stops (deeper d t.kind.code) ts)

-- what a fold makes of tokens, each told with its depth, the first at depth d
abbrev pub folded : {S : Type 0} → (ℕ → Token → S → S) → ℕ → S → List Token → S
folded step d s [] = s
folded step d s (t ∷ ts) = folded step (deeper d t.kind.code) (step d t s) ts

-- Eof, or the closer of the brackets around depth 0
abbrev pub at_closer : ℕ → Token → Bool
at_closer d t = is_eof t || (d == 0 && closes t.kind.code)

-- the tokens inside brackets whose opener was just taken
abbrev pub inside : List Token → List Token
inside ts = up_to at_closer 0 ts
