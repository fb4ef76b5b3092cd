use Rattle.std.proofs.Common.{refl}
use Rattle.class.proofs.Steps.{done_is}
use Rattle.class.specs.Forms.{element_checks_d}
use Rattle.dialogue.proofs.Steps.{check_spoke, test_false, test_true}
use Rattle.class.proofs.methods.check_element.Goals as goal

pub returns-then-is_ts : goal.returns-then-is_ts
unfolding element_checks_d
returns-then-is_ts c = λ s. check_spoke _ _ _ c.run_check.ensures (test_true _ _ _ c.if-is_ts.true (done_is refl))

pub returns : goal.returns
unfolding element_checks_d
returns c = λ s. check_spoke _ _ _ c.run_check.ensures (test_false _ _ _ c.if-is_ts.false (check_spoke _ _ _ c.run_check-2.ensures (done_is refl)))
