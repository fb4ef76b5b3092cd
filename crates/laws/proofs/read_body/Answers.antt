use Rattle.std.proofs.Common.{◌≡◌, Some, rules}
use Rattle.laws.proofs.Bodies.{not_opened, opened}
use Rattle.refusal.specs.Numbers.{refusal_number}
use Rattle.refusal.specs.Questions.{refused_by}
use Rattle.laws.proofs.read_body.Goals as goal

pub returns-in_err-open : goal.returns-in_err-open
returns-in_err-open g c =
    let e : refused_by c.from_residual.result ≡ Some (refusal_number c.in_err-open.field-0.0) = search rules in
    rw e (not_opened c.in_err-open.field-0.0 (c.in_err-open.ensures _ _))

pub returns : goal.returns
returns g c = opened (c.in_ok-open.ensures _ _) c.read_rest.ensures
