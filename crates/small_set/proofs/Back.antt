-- A kind and its number lead back to each other.
use Rattle.std.proofs.Common.{◌≡◌, ℕ, zero, suc, ◌+◌, ◌<◌, ◌≤◌, List, [], ◌∷◌, map, length, Some, None, Option, ap, arith, MatchOption}
use Rattle.std.specs.List.{range_with_len}

-- what `from_number` answers at the number of k is k; that an answered kind has the number asked for is its contract
pub leads_back : {K : Type 0} (numbered : K → ℕ) (size : ℕ) → ((k : K) → numbered k < size) → ((j k : K) → numbered j ≡ numbered k → j ≡ k) → (k : K) (r : Option K) → MatchOption r (size ≤ numbered k) (λ j. numbered j ≡ numbered k) → r ≡ Some k
leads_back numbered size below apart k None h = let l = below k in let z : ⊥ = omega arith in absurd z
leads_back numbered size below apart k (Some j) h = ap Some (apart j k h)

-- where the kinds are listed in the order of their numbers, every number below the size has its kind
pub kind_at : {K : Type 0} (numbered : K → ℕ) (i : ℕ) (ks : List K) → map numbered ks ≡ range_with_len i (length ks) → (n : ℕ) → n < length ks → (k : K) × (numbered k ≡ i + n)
kind_at numbered i [] e n h = let z : ⊥ = omega arith in absurd z
kind_at numbered i (k ∷ ks) e zero h = let same : numbered k ≡ i = cc in (k, omega arith)
kind_at numbered i (k ∷ ks) e (suc n) h =
    let rest : map numbered ks ≡ range_with_len (i + 1) (length ks) = cc in
    let m = kind_at numbered (i + 1) ks rest n (omega arith) in
    (m.0, let q = m.1 in omega arith)
