use Rattle.std.proofs.Common.{rules, ◌≡◌, ℕ, ◌<◌, ◌≤◌, true, false, None, Some, Option, MatchOption, subst, arith}
use Rattle.std.proofs.lemmas.Iterator.{first_from_Range}
use Rattle.small_set.specs.Members.{Lowest, NoneAmong, member}
use Rattle.small_set.proofs.next_member.Goals as goal

-- what the search over a range comes to
abbrev Found : ℕ → ℕ → ℕ → Option ℕ → Type 0
Found bits from end o = MatchOption o (NoneAmong bits from end) (λ n. (from ≤ n) × (n < end) × (member bits n ≡ true) × NoneAmong bits from n)

kind_of : {K : Type 0} (numbered : K → ℕ) (bits from size n : ℕ) (r : Option K) → MatchOption r (size ≤ n) (λ k. numbered k ≡ n) → n < size → Lowest bits from n → MatchOption r (NoneAmong bits from size) (λ k. Lowest bits from (numbered k))
kind_of numbered bits from size n None h l low = absurd (omega arith)
kind_of numbered bits from size n (Some k) h l low = rw h low

pub returns-in_err-n : goal.returns-in_err-n
returns-in_err-n g c =
    let bits = c.args.bits in
    let first : Found bits c.args.from c.how_many.result c.find.result = first_from_Range _ _ _ c.find.result (λ n. member bits n ≡ true) (λ n. member bits n ≡ false) c.find.ensures.ran (λ x q k. search rules) (λ x q k. search rules) in
    let none : NoneAmong bits c.args.from c.how_many.result = subst (Found bits c.args.from c.how_many.result) c.in_err-n.was first in
    rw c.from_residual.ensures (subst (NoneAmong bits c.args.from) c.how_many.ensures none)

pub returns : goal.returns
returns g c =
    let bits = c.args.bits in
    let first : Found bits c.args.from c.how_many.result c.find.result = first_from_Range _ _ _ c.find.result (λ n. member bits n ≡ true) (λ n. member bits n ≡ false) c.find.ensures.ran (λ x q k. search rules) (λ x q k. search rules) in
    let some = subst (Found bits c.args.from c.how_many.result) c.in_ok-n.was first in
    let e = c.how_many.ensures in
    kind_of g.K.SmallKind.numbered bits c.args.from g.K.SmallKind.size c.in_ok-n.n c.from_number.result c.from_number.ensures (omega (arith, some.1)) (some.0, some.2, some.3)
