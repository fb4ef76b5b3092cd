use Rattle.std.proofs.Common.{◌≡◌, true, Ok, Err, eqb, sym, refl, ap, ◌∙◌, rules}
use Rattle.reader.specs.Tokens.{head}
use Rattle.brackets.proofs.Answering.{followed, given, if_so, refused_as, stopped}
use Rattle.brackets.proofs.members.optional.Goals as goal

pub returns-in_err-found : goal.returns-in_err-found
returns-in_err-found g c = λ f w.
    let t = head (g.R.TokenReader.tokens c.args.r.now) in
    let h : eqb t.kind.code c.args.kind.code ≡ true = ap (λ u. eqb u.kind.code c.args.kind.code) (sym c.current.ensures.value) ∙ search (rules, c.ne.ensures, c.if-ne.false) in
    refused_as c.from_residual.result c.from_residual.ensures.1 (if_so _ _ (eqb t.kind.code c.args.kind.code) h (stopped _ _ (w (Err c.in_err-found.field-0.0) c.take.new.arg2 (record { shown = _; shows = refl; left = _; met = c.in_err-found.ensures; leaves = refl }))))

pub returns : goal.returns
returns g c = λ f w.
    let t = head (g.R.TokenReader.tokens c.args.r.now) in
    let h : eqb t.kind.code c.args.kind.code ≡ true = ap (λ u. eqb u.kind.code c.args.kind.code) (sym c.current.ensures.value) ∙ search (rules, c.ne.ensures, c.if-ne.false) in
    if_so _ _ (eqb t.kind.code c.args.kind.code) h (followed _ _ (w (Ok c.in_ok-found.found) c.take.new.arg2 (record { shown = _; shows = refl; left = _; met = c.in_ok-found.ensures; leaves = refl })) (given _ _))
