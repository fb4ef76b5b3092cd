use Rattle.std.proofs.Common.{refl, ap, ◌∙◌, rules}
use Rattle.class.proofs.Steps.{done_is, passed_on}
use Rattle.class.specs.Forms.{constructor_d, constructor_end_d, constructor_rest_d, element_checks_d}
use Rattle.class.specs.Methods.{constructor_reports, judge}
use Rattle.class.specs.declared.judging.Judged.{Judged}
use Rattle.records.specs.declared.record.Form.TheVariants.{Constructor}
use Rattle.records.specs.declared.record.Method.{Method as Facts}
use Rattle.class.specs.Taking.{method_d}
use Rattle.dialogue.proofs.Sequels.{then_spoke}
use Rattle.dialogue.proofs.Steps.{check_spoke, note_spoke}
use Rattle.class.proofs.reading.Reading.read_constructor.Goals as goal

pub returns : goal.returns
unfolding constructor_d constructor_rest_d constructor_end_d
returns g c =
    record {
      spoke =
          note_spoke _ _ refl c.note_decorators.ensures
          (then_spoke _ (element_checks_d _ _) (c.check_element.ensures _) (check_spoke _ _ _ c.run_check.ensures (check_spoke _ _ _ c.run_check-2.ensures
          (then_spoke _ (method_d _) c.in_ok-facts.ensures.spoke (note_spoke _ _ (ap (λ (j : Judged). constructor_reports j.ambient j.special j.method) (c.judge.ensures ∙ ap (λ (m : Facts). judge m c.args.name c.args.context.bits) c.method_of-m.ensures)) c.note_constructor.ensures (done_is (ap Constructor c.method_of-m.ensures)))))));
      kept = search rules;
    }

pub returns-in_err-facts : goal.returns-in_err-facts
unfolding constructor_d constructor_rest_d
returns-in_err-facts g c =
    record {
      spoke =
          note_spoke _ _ refl c.note_decorators.ensures
          (then_spoke _ (element_checks_d _ _) (c.check_element.ensures _) (check_spoke _ _ _ c.run_check.ensures (check_spoke _ _ _ c.run_check-2.ensures
          (passed_on _ (method_d _) c.from_residual.ensures.1 c.in_err-facts.ensures.spoke))));
      kept = search rules;
    }
