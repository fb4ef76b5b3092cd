use Rattle.brackets.specs.Format.{index_told}
use Rattle.brackets.proofs.Answering.{followed, given, refused_as, stopped, unspanned}
use Rattle.brackets.proofs.Bounds.{told_span}
use Rattle.brackets.proofs.Laws.{index_takes, index_within}
use Rattle.brackets.proofs.members.index.Goals as goal

pub returns-in_err-_keys : goal.returns-in_err-_keys
returns-in_err-_keys g c =
    let f = c.from_residual in
    refused_as f.result f.ensures.1 (unspanned index_told (stopped _ _ c.in_err-_keys.ensures))

pub returns-in_err-_values : goal.returns-in_err-_values
returns-in_err-_values g c =
    let f = c.from_residual-in_err-_values in
    refused_as f.result f.ensures.1 (unspanned index_told (followed _ _ c.in_ok-_keys.ensures (stopped _ _ c.in_err-_values.ensures)))

pub returns-in_err-semicolon : goal.returns-in_err-semicolon
returns-in_err-semicolon g c =
    let f = c.from_residual-in_err-semicolon in
    refused_as f.result f.ensures.1 (unspanned index_told (followed _ _ c.in_ok-_keys.ensures (followed _ _ c.in_ok-_values.ensures (stopped _ _ c.in_err-semicolon.ensures))))

pub returns : goal.returns
returns g c =
    told_span index_told index_within index_takes
    (followed _ _ c.in_ok-_keys.ensures (followed _ _ c.in_ok-_values.ensures (followed _ _ c.in_ok-semicolon.ensures (given _ _))))
    c.current-start.ensures.ends c.current-start.result c.current-start.ensures.value c.since.result c.since.ensures
