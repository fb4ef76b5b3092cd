use Rattle.std.proofs.Common.{Ok, ap}
use Rattle.brackets.specs.Depth.{inside}
use Rattle.brackets.proofs.Answering.{followed, given_as, refused_as, stopped, took}
use Rattle.brackets.proofs.groups.group.Goals as goal

pub returns-in_err-opener : goal.returns-in_err-opener
returns-in_err-opener g c =
    let f = c.from_residual in
    refused_as f.result f.ensures.1 (stopped _ _ c.in_err-opener.ensures)

pub returns-in_err-closer : goal.returns-in_err-closer
returns-in_err-closer g c =
    let f = c.from_residual-in_err-closer in
    refused_as f.result f.ensures.1 (followed _ _ c.in_ok-opener.ensures (followed _ _ (took inside _ c.skip_inside.ensures) (stopped _ _ c.in_err-closer.ensures)))

pub returns : goal.returns
returns g c =
    followed _ _ c.in_ok-opener.ensures (followed _ _ (took inside _ c.skip_inside.ensures) (followed _ _ c.in_ok-closer.ensures (given_as _ (ap Ok c.from_to.ensures))))
