use Rattle.std.proofs.Common.{Bool, ap, ◌∙◌, rules}
use Rattle.class.proofs.Steps.{done_is, passed_on, spoke_as}
use Rattle.class.specs.Forms.{accessor_d, accessor_end_d, accessor_form, accessor_rest_d, element_checks_d}
use Rattle.class.specs.Methods.{accessor_reports, judge}
use Rattle.class.specs.Naming.{name_d}
use Rattle.class.specs.Taking.{method_d}
use Rattle.class.specs.declared.judging.Judged.{Judged}
use Rattle.dialogue.proofs.Sequels.{then_spoke}
use Rattle.dialogue.proofs.Steps.{check_spoke, note_spoke}
use Rattle.modifiers.specs.Lists.{entries}
use Rattle.records.specs.declared.record.Method.{Method as Facts}
use Rattle.class.proofs.reading.Reading.read_accessor.Goals as goal

pub returns : goal.returns
unfolding accessor_d accessor_rest_d accessor_end_d
returns g c =
    record {
      spoke =
          then_spoke _ (element_checks_d _ _) (c.check_element.ensures _) (then_spoke _ (name_d _ _ _) c.in_ok-name.ensures.spoke
          (spoke_as (ap (λ (b : Bool). accessor_rest_d b c.args.context.now.bits (entries c.args.modifiers) c.args.kind c.in_ok-name.name) c.in_ok-name.ensures.kept.is_ts)
          (then_spoke _ (method_d _) c.in_ok-facts.ensures.spoke
          (spoke_as (ap (λ (b : Bool). accessor_end_d b c.args.context.now.bits (entries c.args.modifiers) c.args.kind c.in_ok-name.name c.in_ok-facts.facts) c.in_ok-facts.ensures.kept.is_ts) (note_spoke _ _ (ap (λ (j : Judged). accessor_reports c.take_method.new.self.is_ts c.args.kind j.ambient j.special j.method) (c.judge.ensures ∙ ap (λ (m : Facts). judge m c.in_ok-name.name c.args.context.now.bits) c.method_of-m.ensures)) c.note_accessor.ensures
          (check_spoke _ _ _ c.run_check.ensures (done_is (c.accessor_form.ensures ∙ ap (accessor_form c.args.kind) c.method_of-m.ensures))))))));
      kept = search rules;
      context = search rules;
    }

pub returns-in_err-name : goal.returns-in_err-name
unfolding accessor_d
returns-in_err-name g c =
    record {
      spoke = then_spoke _ (element_checks_d _ _) (c.check_element.ensures _) (passed_on _ (name_d _ _ _) c.from_residual.ensures.1 c.in_err-name.ensures.spoke);
      kept = search rules;
      context = search rules;
    }

pub returns-in_err-facts : goal.returns-in_err-facts
unfolding accessor_d accessor_rest_d
returns-in_err-facts g c =
    record {
      spoke =
          then_spoke _ (element_checks_d _ _) (c.check_element.ensures _) (then_spoke _ (name_d _ _ _) c.in_ok-name.ensures.spoke
          (passed_on _ (method_d _) c.from_residual-in_err-facts.ensures.1 c.in_err-facts.ensures.spoke));
      kept = search rules;
      context = search rules;
    }
