-- The law of noting.
use Rattle.std.specs.Prelude.{◌≡◌, ℕ, List as Row, ◌++◌}
use Rattle.list.specs.Lists.{Contents, note_all}

-- noting two rows in turn is noting them joined
abbrev pub NotingJoins : Type 0 → Type 0
NotingJoins T = (n : ℕ) (k : Contents T) (xs ys : Row T) → note_all n k (xs ++ ys) ≡ note_all n (note_all n k xs) ys
