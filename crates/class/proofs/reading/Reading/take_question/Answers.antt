use Rattle.std.proofs.Common.{refl, rules}
use Rattle.class.specs.Taking.{question_d}
use Rattle.class.proofs.Steps.{done_is}
use Rattle.dialogue.proofs.Steps.{test_false, test_true}
use Rattle.class.proofs.reading.Reading.take_question.Goals as goal

pub returns-then-self : goal.returns-then-self
unfolding question_d
returns-then-self g c = record { spoke = test_true _ _ _ c.if-self.true c.optional.ensures.spoke; kept = search rules }

pub returns : goal.returns
unfolding question_d
returns g c = record { spoke = test_false _ _ _ c.if-self.false (done_is refl); kept = search rules }
