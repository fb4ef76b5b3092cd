use Rattle.std.proofs.Common.{◌≡◌, cond, None, ap, arith}
use Rattle.std.proofs.lemmas.Grind.{common_steps}
use Rattle.class.proofs.Steps.{done_is}
use Rattle.class.specs.Properties.{accessor_property_end_d, accessor_property_reports}
use Rattle.dialogue.proofs.Steps.{check_spoke, note_spoke}
use Rattle.kinds.specs.declared.modifier_kind.ModifierKind.TheVariants.{Declare}
use Rattle.modifiers.specs.Entries.{keeps}
use Rattle.modifiers.specs.Lists.{entries}
use Rattle.records.specs.declared.record.Form.TheVariants.{Accessor}
use Rattle.class.proofs.properties.end_accessor_property.Goals as goal

pub returns : goal.returns
unfolding accessor_property_end_d
returns c = λ s.
    let u : c.if-declared.bang ≡ cond (keeps Declare (entries c.args.modifiers)) None c.args.marked.bang = grind (arith, common_steps) in
    check_spoke _ _ _ c.run_check.ensures
    (note_spoke _ _ (λ i. accessor_property_reports (c.contains-ambient.ensures i) (u i) (c.accessor_of-a.ensures i)) c.note_accessor_property.ensures
    (done_is (ap Accessor c.accessor_of-a.ensures)))
