use Rattle.std.proofs.Common.{Ok, ap}
use Rattle.brackets.proofs.Answering.{followed, given_as, refused_as, stopped}
use Rattle.brackets.proofs.members.angled.Goals as goal

pub returns-in_err-left : goal.returns-in_err-left
returns-in_err-left g c =
    let f = c.from_residual in
    refused_as f.result f.ensures.1 (stopped _ _ c.in_err-left.ensures)

pub returns-in_err-_word : goal.returns-in_err-_word
returns-in_err-_word g c =
    let f = c.from_residual-in_err-_word in
    refused_as f.result f.ensures.1 (followed _ _ c.in_ok-left.ensures (stopped _ _ c.in_err-_word.ensures))

pub returns-in_err-right : goal.returns-in_err-right
returns-in_err-right g c =
    let f = c.from_residual-in_err-right in
    refused_as f.result f.ensures.1 (followed _ _ c.in_ok-left.ensures (followed _ _ c.in_ok-_word.ensures (stopped _ _ c.in_err-right.ensures)))

pub returns : goal.returns
returns g c =
    followed _ _ c.in_ok-left.ensures (followed _ _ c.in_ok-_word.ensures (followed _ _ c.in_ok-right.ensures (given_as _ (ap Ok c.from_to.ensures))))
