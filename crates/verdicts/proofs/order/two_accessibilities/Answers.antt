use Rattle.std.proofs.Common.{refl, rules}
use Rattle.std.proofs.lemmas.Iterator.{YieldsList-from_slice}
use Rattle.std.proofs.lemmas.Iterator.Search.{any_from_yields_List}
use Rattle.small_set.specs.Members.{member}
use Rattle.kinds.specs.Modifiers.{modifier_number}
use Rattle.rules.specs.declared.Rule.TheVariants.{AccessibilityAlreadySeen}
use Rattle.std.proofs.Common.{◌&&◌, eqb}
use Rattle.verdicts.specs.Verdicts.{accessibilities, verdict_of}
use Rattle.verdicts.proofs.Pairs.{asked}
use Rattle.verdicts.proofs.order.two_accessibilities.Goals as goal

pub returns : goal.returns
returns c =
    any_from_yields_List (λ k. member c.args.kept.bits (modifier_number k) && eqb (verdict_of c.args.later k) 1) _ _ c.any.result c.any.ensures.ran
    (YieldsList-from_slice accessibilities (search rules))
    (λ x b q k. (search rules, asked 1 AccessibilityAlreadySeen refl refl b _ _ _ (search rules)))
