use Rattle.std.proofs.Common.{Bool, is_some, sym, ap, rules}
use Rattle.class.proofs.Steps.{passed_on, spoke_as}
use Rattle.class.specs.Forms.{method_form_d}
use Rattle.class.specs.Naming.{name_d}
use Rattle.class.specs.Properties.{choice_d, definite_d, marked_d, property_or_method_d}
use Rattle.class.specs.Taking.{optional_d, question_d}
use Rattle.dialogue.proofs.Sequels.{then_spoke}
use Rattle.dialogue.proofs.Steps.{look_spoke, test_false, test_true}
use Rattle.dialogue.specs.Dialogues.{then}
use Rattle.modifiers.specs.Lists.{entries}
use Rattle.class.proofs.reading.Reading.read_property_or_method.Goals as goal

pub returns-then-is_method : goal.returns-then-is_method
unfolding property_or_method_d marked_d choice_d
returns-then-is_method g c =
    record {
      spoke =
          then_spoke _ (optional_d _) c.optional-star.ensures.spoke
          (spoke_as (ap (λ (b : Bool). then (name_d b c.args.context.now.bits (entries c.args.modifiers)) (marked_d b c.args.context.now.bits (entries c.args.modifiers) (is_some c.optional-star.result))) c.optional-star.ensures.kept.is_ts)
          (then_spoke _ (name_d _ _ _) c.in_ok-name.ensures.spoke
          (spoke_as (λ i. marked_d (c.in_ok-name.ensures.kept.is_ts i) (c.in_ok-name.ensures.context i).bits (entries c.args.modifiers) (c.is_some-generator.ensures i) c.in_ok-name.name)
          (then_spoke _ (question_d _) c.take_question-question.ensures.spoke
          (look_spoke _ c.current.ensures.value (test_true _ _ _ (sym c.if-is_method.ensures) (spoke_as (ap (λ (b : Bool). method_form_d c.read_name.new.context.bits (entries c.args.modifiers) b c.is_some-generator.result c.in_ok-name.name) c.is_some.ensures) c.read_method.ensures.spoke)))))));
      kept = search rules;
      context = search rules;
    }

pub returns : goal.returns
unfolding property_or_method_d marked_d choice_d
returns g c =
    record {
      spoke =
          then_spoke _ (optional_d _) c.optional-star.ensures.spoke
          (spoke_as (ap (λ (b : Bool). then (name_d b c.args.context.now.bits (entries c.args.modifiers)) (marked_d b c.args.context.now.bits (entries c.args.modifiers) (is_some c.optional-star.result))) c.optional-star.ensures.kept.is_ts)
          (then_spoke _ (name_d _ _ _) c.in_ok-name.ensures.spoke
          (spoke_as (λ i. marked_d (c.in_ok-name.ensures.kept.is_ts i) (c.in_ok-name.ensures.context i).bits (entries c.args.modifiers) (c.is_some-generator.ensures i) c.in_ok-name.name)
          (then_spoke _ (question_d _) c.take_question-question.ensures.spoke
          (look_spoke _ c.current.ensures.value (test_false _ _ _ (sym c.if-is_method.ensures) (spoke_as (ap (λ (b : Bool). definite_d b c.read_name.new.context.bits (entries c.args.modifiers) c.in_ok-name.name c.take_question-question.result) c.take_question-question.ensures.kept.is_ts) c.read_definite.ensures.spoke)))))));
      kept = search rules;
      context = search rules;
    }

pub returns-in_err-name : goal.returns-in_err-name
unfolding property_or_method_d
returns-in_err-name g c =
    record {
      spoke = then_spoke _ (optional_d _) c.optional-star.ensures.spoke
          (spoke_as (ap (λ (b : Bool). then (name_d b c.args.context.now.bits (entries c.args.modifiers)) (marked_d b c.args.context.now.bits (entries c.args.modifiers) (is_some c.optional-star.result))) c.optional-star.ensures.kept.is_ts)
          (passed_on _ (name_d _ _ _) c.from_residual.ensures.1 c.in_err-name.ensures.spoke));
      kept = search rules;
      context = search rules;
    }
