use Rattle.std.proofs.Common.{Ok, ap}
use Rattle.brackets.proofs.Answering.{followed, given_as, refused_as, stopped}
use Rattle.brackets.proofs.members.decorator.Goals as goal

pub returns-in_err-sign : goal.returns-in_err-sign
returns-in_err-sign g c =
    let f = c.from_residual in
    refused_as f.result f.ensures.1 (stopped _ _ c.in_err-sign.ensures)

pub returns-in_err-word : goal.returns-in_err-word
returns-in_err-word g c =
    let f = c.from_residual-in_err-word in
    refused_as f.result f.ensures.1 (followed _ _ c.in_ok-sign.ensures (stopped _ _ c.in_err-word.ensures))

pub returns : goal.returns
returns g c = followed _ _ c.in_ok-sign.ensures (followed _ _ c.in_ok-word.ensures (given_as _ (ap Ok c.from_to.ensures)))
