use Rattle.std.proofs.Common.{ap}
use Rattle.class.proofs.Steps.{done_is}
use Rattle.class.specs.Properties.{property_end_d, property_reports}
use Rattle.dialogue.proofs.Steps.{check_spoke, note_spoke}
use Rattle.records.specs.declared.record.Form.TheVariants.{Property}
use Rattle.class.proofs.properties.end_property.Goals as goal

pub returns : goal.returns
unfolding property_end_d
returns c = λ s.
    check_spoke _ _ _ c.run_check.ensures
    (note_spoke _ _ (λ i. property_reports (c.contains-ambient.ensures i) c.args.marked.name.special (c.abstract_place-keyword.ensures i) c.args.marked.bang (c.property_of-p.ensures i)) c.note_property.ensures
    (done_is (ap Property c.property_of-p.ensures)))
