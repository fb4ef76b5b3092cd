use Rattle.std.proofs.Common.{ℕ, sym, ap, rules}
use Rattle.class.proofs.Steps.{spoke_as, under}
use Rattle.class.specs.Members.{named_form_d}
use Rattle.class.specs.Properties.{property_or_method_d}
use Rattle.dialogue.proofs.Steps.{look_spoke, test_false, test_true}
use Rattle.dialogue.specs.Dialogues.{stop}
use Rattle.dialogue.specs.declared.Fatal.TheVariants.{Unexpected}
use Rattle.modifiers.specs.Lists.{entries}
use Rattle.class.proofs.reading.Reading.read_named_form.Goals as goal

pub returns-then-not-starts_name : goal.returns-then-not-starts_name
unfolding named_form_d
returns-then-not-starts_name g c = record { spoke = look_spoke _ c.current-t.ensures.value (test_false _ _ _ (sym c.if-not-starts_name.ensures) (spoke_as (ap (stop Unexpected) c.from.ensures) (c.stop.ensures _))); kept = search rules; context = search rules }

pub returns-then-contains : goal.returns-then-contains
unfolding named_form_d
returns-then-contains g c =
    record {
      spoke =
          look_spoke _ c.current-t.ensures.value (test_true _ _ _ (sym c.if-not-starts_name.ensures) (test_true _ _ _ (sym c.if-contains.ensures)
          (under (λ (b : ℕ). property_or_method_d c.args.self.now.is_ts b (entries c.args.modifiers)) c.within-guard.ensures.changed c.read_property_or_method.ensures.spoke)));
      kept = search rules;
      context = search rules;
    }

pub returns : goal.returns
unfolding named_form_d
returns g c = record { spoke = look_spoke _ c.current-t.ensures.value (test_true _ _ _ (sym c.if-not-starts_name.ensures) (test_false _ _ _ (sym c.if-contains.ensures) c.read_property_or_method-2.ensures.spoke)); kept = search rules; context = search rules }
