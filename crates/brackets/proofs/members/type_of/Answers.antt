use Rattle.std.proofs.Common.{Ok}
use Rattle.brackets.proofs.Answering.{followed, given_as, refused_as, stopped}
use Rattle.brackets.proofs.members.type_of.Goals as goal

pub returns-in_err-colon : goal.returns-in_err-colon
returns-in_err-colon g c =
    let f = c.from_residual in
    refused_as f.result f.ensures.1 (stopped _ _ c.in_err-colon.ensures)

pub returns-in_err-word : goal.returns-in_err-word
returns-in_err-word g c =
    let f = c.from_residual-in_err-word in
    refused_as f.result f.ensures.1 (followed _ _ c.in_ok-colon.ensures (stopped _ _ c.in_err-word.ensures))

pub returns : goal.returns
returns g c = followed _ _ c.in_ok-colon.ensures (followed _ _ c.in_ok-word.ensures (given_as _ (λ i. Ok (record { annotation = c.from_to.ensures i; type_span = c.from.ensures i }))))
