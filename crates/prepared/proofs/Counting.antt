-- How many tokens are left once one is taken, and what that makes of an answer.
use Rattle.std.proofs.Common.{◌≡◌, ℕ, ◌+◌, ◌-◌, true, false, List, [], ◌∷◌, length, arith}
use Rattle.std.proofs.lemmas.Bool.Decides.{nat_tests}
use Rattle.reader.specs.Answers.{Answer}
use Rattle.reader.specs.Tokens.{ended, head, is_eof, next}
use Rattle.token.specs.declared.Token.{Token}

-- with n before Eof, one fewer is left, and none fewer than none
pub next_counts : (ts : List Token) (n : ℕ) → ended ts ≡ true → n + 1 ≡ length ts → length (next ts) ≡ n - 1 + 1
next_counts [] n h l = grind arith
next_counts (t ∷ []) n h l = let e : is_eof t ≡ true = grind (arith, nat_tests) in rw e (omega arith)
next_counts (t ∷ (u ∷ us)) n h l = let e : is_eof t ≡ false = grind (arith, nat_tests) in rw e (omega arith)

-- an answer at the current token, with as many left as there are before the last
pub answer_here : {F : Type 0} (f : Token → ℕ → Answer F) (ts : List Token) (t : Token) (n : ℕ) → t ≡ head ts → n + 1 ≡ length ts → f t n ≡ f (head ts) (length ts - 1)
answer_here f ts t n here all = let left : n ≡ length ts - 1 = omega arith in cc
