-- A walk over a list, one keyword at a time.
use Rattle.std.proofs.Common.{◌≡◌, ℕ, zero, suc, ◌<◌, List, [], ◌∷◌, map, length, drop, Some, None, ap, refl, arith}
use Rattle.std.specs.List.{slice_get}
use Rattle.modifiers.specs.Entries.{placed, placed_if}
use Rattle.modifiers.specs.declared.modifier.Modifier.{Modifier}
use Rattle.modifiers.specs.declared.modifier.Placed.{Placed}

pub walk_on : (ms : List Modifier) (i : ℕ) (p : Placed) → Some p ≡ placed_if (slice_get ms i) → (i < length ms) × (map placed (drop i ms) ≡ p ∷ map placed (drop (suc i) ms))
walk_on [] i p h = cc
walk_on (m ∷ ms) zero p h = let q : placed m ≡ p = cc in (omega arith, ap (λ x. x ∷ map placed ms) q)
walk_on (m ∷ ms) (suc i) p h = let rest = walk_on ms i p h in (omega arith, rest.1)

pub walk_over : (ms : List Modifier) (i : ℕ) → None ≡ placed_if (slice_get ms i) → map placed (drop i ms) ≡ []
walk_over [] zero h = refl
walk_over [] (suc i) h = refl
walk_over (m ∷ ms) zero h = cc
walk_over (m ∷ ms) (suc i) h = walk_over ms i h
