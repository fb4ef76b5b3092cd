use Rattle.dialogue.proofs.Steps.{check_spoke, test_false, test_true}
use Rattle.class.specs.Naming.{private_d}
use Rattle.class.proofs.naming.check_private.Goals as goal

pub returns-then-is_ts : goal.returns-then-is_ts
unfolding private_d
returns-then-is_ts c = λ s. test_true _ _ _ c.if-is_ts.true (check_spoke _ _ _ c.run_check.ensures (c.note_private.ensures s))

pub returns : goal.returns
unfolding private_d
returns c = λ s. test_false _ _ _ c.if-is_ts.false (c.note_private-2.ensures s)
