use Rattle.std.proofs.Common.{◌≡◌, Some, rules}
use Rattle.laws.proofs.Bodies.{as_read, at_end, at_fault, at_refusal, going_none, going_on}
use Rattle.refusal.specs.Numbers.{refusal_number}
use Rattle.refusal.specs.Questions.{refused_by}
use Rattle.laws.proofs.read_rest.Goals as goal

pub loop-session-init : goal.loop-session-init
loop-session-init g c = going_none _

pub loop-session-preserved : goal.loop-session-preserved
loop-session-preserved g c = going_on c.loop-session.invariant (as_read c.in-Member.is c.in_ok-member.ensures)

pub returns-in-NoMore : goal.returns-in-NoMore
returns-in-NoMore g c = at_end c.close.result c.loop-session.invariant (as_read c.in-NoMore.is c.in_ok-member.ensures) (c.close.ensures _ _)

pub returns-in-Fault : goal.returns-in-Fault
returns-in-Fault g c = at_fault _ c.loop-session.invariant (as_read c.in-Fault.is c.in_ok-member.ensures)

pub returns-in_err-member : goal.returns-in_err-member
returns-in_err-member g c =
    let e : refused_by c.from_residual.result ≡ Some (refusal_number c.in_err-member.field-0.0) = search rules in
    rw e (at_refusal c.in_err-member.field-0.0 c.loop-session.invariant c.in_err-member.ensures)
