use Rattle.std.proofs.Common.{◌≡◌, ◌^◌, ◌≤◌, Option, MatchOption, ap, subst, ◌∙◌}
use Rattle.small_set.specs.Members.{member}
use Rattle.kinds.specs.Modifiers.{modifier_number}
use Rattle.kinds.specs.declared.modifier_kinds.ModifierKinds.{ModifierKinds}
use Rattle.verdicts.specs.Verdicts.{forbidden_before, kind_at, packed}
use Rattle.kinds.proofs.Numbered.{numbers}
use Rattle.verdicts.proofs.Pairs.{row_members}
use Rattle.verdicts.proofs.tables.row.Goals as goal

pub returns : goal.returns
returns c =
    let fits : c.unwrap.result.bits ≡ c.bits_at.result = subst (λ (o : Option ModifierKinds). MatchOption o (2 ^ 15 ≤ c.bits_at.result) (λ s. s.bits ≡ c.bits_at.result)) c.unwrap.ensures c.from_bits.ensures in
    let bits : c.unwrap.result.bits ≡ packed (forbidden_before c.args.later) =
    fits ∙ c.bits_at.ensures
    ∙ ap (λ n. packed (forbidden_before (kind_at n))) c.number.ensures
    ∙ ap (λ k. packed (forbidden_before k)) (numbers c.args.later).0
    in
    λ k. ap (λ b. member b (modifier_number k)) bits ∙ row_members c.args.later k
