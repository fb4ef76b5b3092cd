-- The gate asks its questions in order, and the first that is answered no refuses, with its number.
use Rattle.std.specs.Prelude.{ℕ, Bool, cond, List, [], ◌∷◌, Some, None, Ok, Err, Option, Result}
use Rattle.refusal.specs.Numbers.{refusal_number}
use Rattle.refusal.specs.declared.Refusal.{Refusal}

-- a question by its number, and its answer
abbrev pub Question : Type 0
Question = ℕ × Bool

-- the number of the first question answered no, if there is one
abbrev pub first_no : List Question → Option ℕ
first_no [] = None
first_no (q ∷ qs) = cond q.1 (first_no qs) (Some q.0)

-- the number of a refusal, if there is one
abbrev pub number_of : Option Refusal → Option ℕ
number_of None = None
number_of (Some r) = Some (refusal_number r)

-- the number of the refusal that a call answers, if it does
abbrev pub refused_by : {A : Type 0} → Result A Refusal → Option ℕ
refused_by (Ok a) = None
refused_by (Err r) = Some (refusal_number r)
