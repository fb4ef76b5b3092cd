use Rattle.std.proofs.Common.{None, sym, ap, ap₂, ◌∙◌, rules}
use Rattle.class.proofs.Steps.{done_is, spoke_as}
use Rattle.dialogue.proofs.Steps.{eat_no, eat_yes}
use Rattle.dialogue.specs.Dialogues.{stop}
use Rattle.dialogue.specs.declared.Fatal.TheVariants.{Unexpected}
use Rattle.parts.specs.declared.Span.{Span}
use Rattle.records.specs.declared.record.NameKind.TheVariants.{Identifier, String, Number}
use Rattle.class.specs.Naming.{named, property_name_d}
use Rattle.class.proofs.reading.Reading.read_property_name.Goals as goal

pub returns-then-is : goal.returns-then-is
unfolding property_name_d
returns-then-is g c = record { spoke = eat_yes _ _ _ c.current-t.ensures.value (sym c.if-is.ensures) c.take.ensures (done_is (c.name_at.ensures ∙ ap₂ (named String) c.from.ensures c.special_name.ensures)); kept = search rules; context = search rules }

pub returns-then-is_number : goal.returns-then-is_number
unfolding property_name_d
returns-then-is_number g c = record { spoke = eat_no _ _ _ c.current-t.ensures.value (sym c.if-is.ensures) (eat_yes _ _ _ c.current-t.ensures.value (sym c.if-is_number.ensures) c.take-then-is_number.ensures (done_is (c.name_at-then-is_number.ensures ∙ ap (λ (p : Span). named Number p None) c.from-then-is_number.ensures))); kept = search rules; context = search rules }

pub returns-then-is-2 : goal.returns-then-is-2
unfolding property_name_d
returns-then-is-2 g c = record { spoke = eat_no _ _ _ c.current-t.ensures.value (sym c.if-is.ensures) (eat_no _ _ _ c.current-t.ensures.value (sym c.if-is_number.ensures) (eat_yes _ _ _ c.current-t.ensures.value (sym c.if-is-2.ensures) c.take-then-is-2.ensures c.read_computed.ensures.spoke)); kept = search rules; context = search rules }

pub returns-then-is_identifier_name : goal.returns-then-is_identifier_name
unfolding property_name_d
returns-then-is_identifier_name g c = record { spoke = eat_no _ _ _ c.current-t.ensures.value (sym c.if-is.ensures) (eat_no _ _ _ c.current-t.ensures.value (sym c.if-is_number.ensures) (eat_no _ _ _ c.current-t.ensures.value (sym c.if-is-2.ensures) (eat_yes _ _ _ c.current-t.ensures.value (sym c.if-is_identifier_name.ensures) c.take-then-is_identifier_name.ensures (done_is (c.name_at-then-is_identifier_name.ensures ∙ ap₂ (named Identifier) c.from-then-is_identifier_name.ensures c.special_name-then-is_identifier_name.ensures))))); kept = search rules; context = search rules }

pub returns : goal.returns
unfolding property_name_d
returns g c = record { spoke = eat_no _ _ _ c.current-t.ensures.value (sym c.if-is.ensures) (eat_no _ _ _ c.current-t.ensures.value (sym c.if-is_number.ensures) (eat_no _ _ _ c.current-t.ensures.value (sym c.if-is-2.ensures) (eat_no _ _ _ c.current-t.ensures.value (sym c.if-is_identifier_name.ensures) (spoke_as (ap (stop Unexpected) c.from-2.ensures) (c.stop.ensures _))))); kept = search rules; context = search rules }
