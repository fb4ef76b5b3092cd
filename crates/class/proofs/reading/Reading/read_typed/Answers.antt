use Rattle.std.proofs.Common.{refl, rules}
use Rattle.class.proofs.Steps.{done_is, passed_on}
use Rattle.class.specs.Properties.{typed_d}
use Rattle.class.specs.Taking.{type_d, value_d}
use Rattle.dialogue.proofs.Sequels.{then_spoke}
use Rattle.class.proofs.reading.Reading.read_typed.Goals as goal

pub returns-in_err-type_annotation : goal.returns-in_err-type_annotation
unfolding typed_d
returns-in_err-type_annotation g c = record { spoke = passed_on _ (type_d _ _) c.from_residual.ensures.1 c.in_err-type_annotation.ensures.spoke; kept = search rules; context = search rules }

pub returns : goal.returns
unfolding typed_d
returns g c = record { spoke = then_spoke _ (type_d _ _) c.in_ok-type_annotation.ensures.spoke (then_spoke _ (value_d _) c.in_ok-value.ensures.spoke (done_is refl)); kept = search rules; context = search rules }

pub returns-in_err-value : goal.returns-in_err-value
unfolding typed_d
returns-in_err-value g c = record { spoke = then_spoke _ (type_d _ _) c.in_ok-type_annotation.ensures.spoke (passed_on _ (value_d _) c.from_residual-in_err-value.ensures.1 c.in_err-value.ensures.spoke); kept = search rules; context = search rules }
