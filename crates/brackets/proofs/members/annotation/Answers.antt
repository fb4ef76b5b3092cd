use Rattle.brackets.proofs.Answering.{followed, given, refused_as, stopped}
use Rattle.brackets.proofs.members.annotation.Goals as goal

pub returns-in_err-found : goal.returns-in_err-found
returns-in_err-found g c =
    let f = c.from_residual in
    refused_as f.result f.ensures.1 (stopped _ _ c.in_err-found.ensures)

pub returns : goal.returns
returns g c = followed _ _ c.in_ok-found.ensures (given _ _)
