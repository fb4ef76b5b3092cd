use Rattle.std.proofs.Common.{refl}
use Rattle.class.proofs.Steps.{done_is}
use Rattle.class.proofs.taking.settle.Goals as goal

pub returns-in-Ok : goal.returns-in-Ok
returns-in-Ok g c = λ s. rw c.in-Ok.is (done_is refl)

pub returns-in-Err : goal.returns-in-Err
returns-in-Err g c = λ s. rw c.in-Err.is (c.stop.ensures s)
