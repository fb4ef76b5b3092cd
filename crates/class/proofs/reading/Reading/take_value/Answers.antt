use Rattle.std.proofs.Common.{sym, refl, rules}
use Rattle.class.specs.Taking.{part_d, value_d}
use Rattle.class.proofs.Steps.{done_is, passed_on}
use Rattle.dialogue.proofs.Sequels.{then_spoke}
use Rattle.dialogue.proofs.Steps.{eat_no, eat_yes}
use Rattle.parts.specs.declared.Part.TheVariants.{Expression}
use Rattle.class.proofs.reading.Reading.take_value.Goals as goal

pub returns-then-not-is : goal.returns-then-not-is
unfolding value_d
returns-then-not-is g c = record { spoke = eat_no _ _ _ c.current.ensures.value (sym c.if-not-is.ensures) (done_is refl); kept = search rules; context = search rules }

pub returns : goal.returns
unfolding value_d
returns g c = record { spoke = eat_yes _ _ _ c.current.ensures.value (sym c.if-not-is.ensures) c.take.ensures (then_spoke _ (part_d Expression _) c.in_ok-span.ensures.spoke (done_is refl)); kept = search rules; context = search rules }

pub returns-in_err-span : goal.returns-in_err-span
unfolding value_d
returns-in_err-span g c = record { spoke = eat_yes _ _ _ c.current.ensures.value (sym c.if-not-is.ensures) c.take.ensures (passed_on _ (part_d Expression _) c.from_residual.ensures.1 c.in_err-span.ensures.spoke); kept = search rules; context = search rules }
