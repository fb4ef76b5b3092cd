use Rattle.std.proofs.Common.{Bool, Some, ap, ◌∙◌}
use Rattle.class.proofs.Steps.{done_is}
use Rattle.class.specs.Decorating.{decorator_reports}
use Rattle.class.specs.Members.{decorators_if, member_end_d}
use Rattle.dialogue.proofs.Steps.{last_spoke, note_spoke}
use Rattle.modifiers.specs.Lists.{entries}
use Rattle.records.specs.Decorators.{spans_of}
use Rattle.class.proofs.members.end_member.Goals as goal

pub returns : goal.returns
unfolding member_end_d
returns g c =
    note_spoke _ _ (ap (decorator_reports 18) (c.decorators_if-noted.ensures ∙ ap (λ (b : Bool). decorators_if b (spans_of c.args.before.decorators)) c.is_bodiless.ensures)) c.note_decorators.ensures
    (last_spoke _ c.last_end-end.ensures.value
    (done_is (λ i. Some (record { span = record { start = c.args.start; end = c.last_end-end.result }; kept = entries c.args.before.modifiers; decorators = (c.decorators_if.ensures ∙ ap (λ (b : Bool). decorators_if b (spans_of c.args.before.decorators)) c.holds_decorators.ensures) i; form = c.args.form }))))
