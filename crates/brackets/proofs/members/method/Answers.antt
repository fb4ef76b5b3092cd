use Rattle.std.proofs.Common.{Ok, ap}
use Rattle.brackets.specs.Format.{method_told}
use Rattle.brackets.proofs.Answering.{answered_as, followed, given, refused_as, stopped, unspanned}
use Rattle.brackets.proofs.Bounds.{told_span}
use Rattle.brackets.proofs.Laws.{method_takes, method_within}
use Rattle.brackets.proofs.members.method.Goals as goal

pub returns-in_err-type_parameters : goal.returns-in_err-type_parameters
returns-in_err-type_parameters g c =
    let f = c.from_residual in
    refused_as f.result f.ensures.1 (unspanned method_told (stopped _ _ c.in_err-type_parameters.ensures))

pub returns-in_err-list : goal.returns-in_err-list
returns-in_err-list g c =
    let f = c.from_residual-in_err-list in
    refused_as f.result f.ensures.1 (unspanned method_told (followed _ _ c.in_ok-type_parameters.ensures (stopped _ _ c.in_err-list.ensures)))

pub returns-in_err-return_type : goal.returns-in_err-return_type
returns-in_err-return_type g c =
    let f = c.from_residual-in_err-return_type in
    refused_as f.result f.ensures.1 (unspanned method_told (followed _ _ c.in_ok-type_parameters.ensures (followed _ _ c.in_ok-list.ensures (stopped _ _ c.in_err-return_type.ensures))))

pub returns-in_err-body_start : goal.returns-in_err-body_start
returns-in_err-body_start g c =
    let f = c.from_residual-in_err-body_start in
    refused_as f.result f.ensures.1 (unspanned method_told (followed _ _ c.in_ok-type_parameters.ensures (followed _ _ c.in_ok-list.ensures (followed _ _ c.in_ok-return_type.ensures (stopped _ _ c.in_err-body_start.ensures)))))

pub returns : goal.returns
returns g c =
    answered_as (ap Ok c.method_facts.ensures)
    (told_span method_told method_within method_takes
    (followed _ _ c.in_ok-type_parameters.ensures (followed _ _ c.in_ok-list.ensures (followed _ _ c.in_ok-return_type.ensures (followed _ _ c.in_ok-body_start.ensures (given _ _)))))
    c.current-start.ensures.ends c.current-start.result c.current-start.ensures.value c.since-span.result c.since-span.ensures)
