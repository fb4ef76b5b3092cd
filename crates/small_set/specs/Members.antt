-- Sets of numbers, held as the bits of one number.
use Rattle.std.specs.Prelude.{◌≡◌, ℕ, zero, suc, ◌/◌, ◌%◌, ◌^◌, ◌<◌, ◌≤◌, Bool, true, false, cond, List, [], ◌∷◌, ◌++◌, ◌==◌}

-- whether the number n is in the set that the bits stand for: bit n is 1
-- (it opens by name only, so that proofs speak of members and not of quotients)
unfoldable pub member : ℕ → ℕ → Bool
member bits n = bits / 2 ^ n % 2 == 1

-- the members below n, ascending
abbrev pub members_below : ℕ → ℕ → List ℕ
members_below bits zero = []
members_below bits (suc n) = members_below bits n ++ cond (member bits n) (n ∷ []) []

-- the members of a set in sixteen bits, ascending
unfoldable pub members : ℕ → List ℕ
members bits = members_below bits 16

-- no number from the one up to below the other is a member
abbrev pub NoneAmong : ℕ → ℕ → ℕ → Type 0
NoneAmong bits from end = (j : ℕ) → from ≤ j → j < end → member bits j ≡ false

-- n is the lowest member at or above the other
abbrev pub Lowest : ℕ → ℕ → ℕ → Type 0
Lowest bits from n = (from ≤ n) × (member bits n ≡ true) × NoneAmong bits from n
