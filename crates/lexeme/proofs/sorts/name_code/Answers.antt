use Rattle.std.proofs.Common.{◌≡◌, ℕ, ◌+◌, List, [], ◌∷◌, codes, length, get_or, drop, ◌∙◌, arith, rules}
use Rattle.std.proofs.lemmas.List.{drop_all, drop_more}
use Rattle.lexeme.specs.Format.{name_code}
use Rattle.lexeme.proofs.sorts.name_code.Goals as goal

-- the bytes of s from the i-th on are those of w
abbrev Spells : List ℕ → ℕ → List ℕ → Type 0
Spells s i [] = length s ≡ i
Spells s i (b ∷ bs) = (get_or s i 0 ≡ b) × Spells s (i + 1) bs

long : (w s : List ℕ) (i : ℕ) → Spells s i w → length s ≡ i + length w
long [] s i h = omega (arith, h)
long (b ∷ w) s i h = let l = long w s (i + 1) h.1 in omega arith

spelled : (w s : List ℕ) (i : ℕ) → Spells s i w → drop i s ≡ w
spelled [] s i h = drop_all i s (omega (arith, h))
spelled (b ∷ w) s i h =
    let l = long w s (i + 1) h.1 in
    drop_more s i 0 (omega arith) ∙ (λ j. h.0 j ∷ spelled w s (i + 1) h.1 j)

pub returns-in-constructor : goal.returns-in-constructor
unfolding name_code
returns-in-constructor c = rw (spelled (codes "constructor") c.args.name.now 0 (search rules depth 20))

pub returns-in-prototype : goal.returns-in-prototype
unfolding name_code
returns-in-prototype c = rw (spelled (codes "prototype") c.args.name.now 0 (search rules depth 20))
