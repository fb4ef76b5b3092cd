use Rattle.std.proofs.Common.{not, Err, sym, ap, ◌∙◌, subst}
use Rattle.reader.specs.Scenes.{scene}
use Rattle.brackets.specs.Depth.{up_to}
use Rattle.brackets.specs.Format.{ends_expression, ends_later, expression_told, goes_on}
use Rattle.brackets.specs.Readings.{Skips}
use Rattle.brackets.proofs.Answering.{followed, given, moved, one_fits, one_refused, stopped, took, unspanned}
use Rattle.brackets.proofs.Bounds.{told_span}
use Rattle.brackets.proofs.Laws.{expression_takes, expression_within}
use Rattle.brackets.proofs.groups.expression.Goals as goal

pub returns-then-ends_expression : goal.returns-then-ends_expression
returns-then-ends_expression g c =
    let s = scene g.R.TokenReader c.args.r.now in
    let w = one_refused (λ k. not (ends_expression 0 k)) s c.current-first.result c.current-first.ensures.value (ap not (sym c.if-ends_expression.ensures)) in
    let v = unspanned expression_told (stopped _ _ w) in
    record { value = ap Err c.from.ensures ∙ v.value; after = v.after }

pub returns : goal.returns
returns g c =
    let s = scene g.R.TokenReader c.args.r.now in
    let t = c.current-first.result in
    let a = c.advance.ensures in
    let w = one_fits (λ k. not (ends_expression 0 k)) s _ t c.current-first.ensures.value (ap not (sym c.if-ends_expression.ensures)) (moved s.tokens s.last a.tokens a.last a.answers) in
    let f = subst (λ d. Skips g.R.TokenReader (up_to ends_later d) c.advance.new.self c.skip_expression.new.r) c.deeper.ensures c.skip_expression.ensures in
    told_span expression_told expression_within expression_takes (followed _ _ w (followed _ _ (took (goes_on t) _ f) (given _ _))) c.current-first.ensures.ends t c.current-first.ensures.value c.since.result c.since.ensures
