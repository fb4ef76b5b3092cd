use Rattle.std.proofs.Common.{◌≡◌, ℕ, ◌+◌, ◌-◌, suc, true, ltb, length, sym, ap, ◌∙◌, arith}
use Rattle.std.proofs.lemmas.Bool.Decides.{nat_tests}
use Rattle.std.proofs.lemmas.Result.{err_from_is_err_and}
use Rattle.class.proofs.Decorators.{decorators_begun, decorators_full, decorators_more, decorators_none, decorators_refused, length_more}
use Rattle.reader.specs.Scenes.{scene}
use Rattle.records.specs.Decorators.{spans_of}
use Rattle.reports.specs.Reports.{at_place}
use Rattle.class.proofs.decorating.take_decorators.Goals as goal

pub loop-init : goal.loop-init
loop-init g c =
    let e = ap length c.none-decorators.ensures in
    record {
      taken = omega (arith, e);
      onward = λ n s k r h x. decorators_begun c.args.context.bits (spans_of c.none-decorators.result) n c.none-decorators.ensures h x;
    }

pub loop-preserved : goal.loop-preserved
loop-preserved g c =
    let ds = spans_of c.loop.decorators in
    let a : ltb (length ds) 16 ≡ true = grind (arith, nat_tests) in
    let p = c.push.ensures.pushed (c.push.ensures.answer ∙ a) in
    let e = ap length p in
    let m = length_more ds c.in_ok-span.span in
    record {
      taken = omega (arith, e, m);
      onward = λ n s k r h x.
          c.loop.invariant.onward (suc n) s k r (omega (arith, e, m, h))
          (decorators_more _ _ n c.current.ensures.value (sym c.if-not-is.ensures) c.in_ok-span.ensures p x);
    }

pub returns-then-not-is : goal.returns-then-not-is
returns-then-not-is g c =
    let ds = spans_of c.loop.decorators in
    let n : ℕ = 16 - length ds in
    c.loop.invariant.onward n _ _ _ (omega arith) (decorators_none _ _ n c.current.ensures.value (sym c.if-not-is.ensures))

pub returns-in_err-span : goal.returns-in_err-span
returns-in_err-span g c =
    let ds = spans_of c.loop.decorators in
    let p = err_from_is_err_and c.from_residual.result c.from_residual.ensures.1 in
    let n : ℕ = 15 - length ds in
    let h : length ds + suc n ≡ 16 = omega arith in
    c.loop.invariant.onward (suc n) _ _ _ h
    (rw (p.1, p.2) (decorators_refused _ _ n c.current.ensures.value (sym c.if-not-is.ensures) c.in_err-span.ensures))

pub returns-then-is : goal.returns-then-is
returns-then-is g c =
    let x = c.stop.ensures (scene g.S.TokenReader c.loop.script) in
    c.loop.invariant.onward 0 _ _ _ (omega arith)
    (rw x.value (decorators_full _ _ c.current-next.ensures.value (sym c.if-is.ensures) (ap (at_place 52) c.from.ensures) x.reports))

pub returns : goal.returns
returns g c =
    c.loop.invariant.onward 0 _ _ _ (omega arith) (decorators_none _ _ 0 c.current-next.ensures.value (sym c.if-is.ensures))
