use Rattle.std.proofs.Common.{ap, ◌∙◌, rules}
use Rattle.class.proofs.Steps.{done_is, passed_on}
use Rattle.class.specs.Forms.{method_end_d, method_form_d}
use Rattle.class.specs.Methods.{judge, plain_reports}
use Rattle.class.specs.declared.judging.Judged.{Judged}
use Rattle.records.specs.declared.record.Form.TheVariants.{Method}
use Rattle.records.specs.declared.record.Method.{Method as Facts}
use Rattle.class.specs.Taking.{method_d}
use Rattle.dialogue.proofs.Sequels.{then_spoke}
use Rattle.dialogue.proofs.Steps.{check_spoke, note_spoke}
use Rattle.class.proofs.reading.Reading.read_method.Goals as goal

pub returns : goal.returns
unfolding method_form_d method_end_d
returns g c = record { spoke = check_spoke _ _ _ c.run_check.ensures (then_spoke _ (method_d _) c.in_ok-facts.ensures.spoke (note_spoke _ _ (ap (λ (j : Judged). plain_reports j.ambient j.special j.method) (c.judge.ensures ∙ ap (λ (m : Facts). judge m c.args.name c.args.context.bits) c.method_of-m.ensures)) c.note_plain.ensures (done_is (ap Method c.method_of-m.ensures)))); kept = search rules }

pub returns-in_err-facts : goal.returns-in_err-facts
unfolding method_form_d
returns-in_err-facts g c = record { spoke = check_spoke _ _ _ c.run_check.ensures (passed_on _ (method_d _) c.from_residual.ensures.1 c.in_err-facts.ensures.spoke); kept = search rules }
