use Rattle.std.proofs.Common.{sym, refl, rules}
use Rattle.class.specs.Taking.{part_d, type_d}
use Rattle.class.proofs.Steps.{done_is, passed_on}
use Rattle.dialogue.proofs.Sequels.{then_spoke}
use Rattle.dialogue.proofs.Steps.{look_spoke, test_false, test_true}
use Rattle.parts.specs.declared.Part.TheVariants.{TypeAnnotation}
use Rattle.class.proofs.reading.Reading.take_type.Goals as goal

pub returns-then-not-is_annotated : goal.returns-then-not-is_annotated
unfolding type_d
returns-then-not-is_annotated g c = record { spoke = look_spoke _ c.current.ensures.value (test_false _ _ _ (sym c.if-not-is_annotated.ensures) (done_is refl)); kept = search rules }

pub returns : goal.returns
unfolding type_d
returns g c = record { spoke = look_spoke _ c.current.ensures.value (test_true _ _ _ (sym c.if-not-is_annotated.ensures) (then_spoke _ (part_d TypeAnnotation c.args.context.bits) c.in_ok-span.ensures (done_is refl))); kept = search rules }

pub returns-in_err-span : goal.returns-in_err-span
unfolding type_d
returns-in_err-span g c = record { spoke = look_spoke _ c.current.ensures.value (test_true _ _ _ (sym c.if-not-is_annotated.ensures) (passed_on _ (part_d TypeAnnotation c.args.context.bits) c.from_residual.ensures.1 c.in_err-span.ensures)); kept = search rules }
