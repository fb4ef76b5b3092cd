use Rattle.std.proofs.Common.{Bool, Some, sym, refl, ap, ◌∙◌, rules}
use Rattle.small_set.specs.Members.{member}
use Rattle.kinds.specs.Modifiers.{modifier_number}
use Rattle.kinds.specs.declared.modifier_kind.ModifierKind.{ModifierKind}
use Rattle.rules.specs.declared.Rule.TheVariants.{AlreadySeen}
use Rattle.verdicts.specs.Orders.{naming_if}
use Rattle.verdicts.proofs.Pairs.{asked}
use Rattle.verdicts.proofs.Ordered.{lowest_said, order_rules, none_among, lowest_among, second_known, second_none, again_known, again_none}
use Rattle.verdicts.proofs.order.order_verdict.Goals as goal

pub returns-in_err-lowest : goal.returns-in_err-lowest
returns-in_err-lowest c =
    let kept : ModifierKind → Bool = λ k. member c.args.kept.bits (modifier_number k) in
    let none = none_among c.args.kept.bits c.row.result.bits c.intersection.result.bits c.args.later
    c.row.ensures c.intersection.ensures c.in_err-lowest.ensures in
    c.from_residual.ensures ∙ sym ((order_rules kept c.args.later).nothing none)

pub returns-then-two_accessibilities : goal.returns-then-two_accessibilities
returns-then-two_accessibilities c =
    let kept : ModifierKind → Bool = λ k. member c.args.kept.bits (modifier_number k) in
    let taken = sym c.two_accessibilities.ensures ∙ c.if-two_accessibilities.true in
    ap Some c.without_other.ensures
    ∙ sym ((order_rules kept c.args.later).second (second_known kept c.args.later taken))

pub returns-then-gives : goal.returns-then-gives
returns-then-gives c =
    let kept : ModifierKind → Bool = λ k. member c.args.kept.bits (modifier_number k) in
    let given = asked 2 AlreadySeen refl refl c.gives.result (kept c.args.later) c.args.later c.args.later c.gives.ensures in
    ap Some c.without_other-then-gives.ensures
    ∙ sym ((order_rules kept c.args.later).again (again_known kept c.args.later (sym given ∙ c.if-gives.true)))

pub returns : goal.returns
returns c =
    let kept : ModifierKind → Bool = λ k. member c.args.kept.bits (modifier_number k) in
    let later = c.args.later in
    let k = c.in_ok-lowest.lowest in
    let low = lowest_among c.args.kept.bits c.row.result.bits c.intersection.result.bits later
    c.row.ensures c.intersection.ensures k c.in_ok-lowest.ensures in
    let one = second_none kept later (sym c.two_accessibilities.ensures ∙ c.if-two_accessibilities.false) in
    let given = asked 2 AlreadySeen refl refl c.gives.result (kept later) later later c.gives.ensures in
    let two = again_none kept later (sym given ∙ c.if-gives.false) in
    (search rules) ∙ ap (λ o. naming_if o k) c.verdict.ensures.rule ∙ sym (lowest_said kept later k low one two)
