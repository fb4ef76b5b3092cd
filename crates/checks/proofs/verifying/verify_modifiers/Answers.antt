use Rattle.std.proofs.Common.{◌≤◌, length, arith, take_all}
use Rattle.checks.proofs.Once.{checked_lasts}
use Rattle.checks.proofs.Steps.{checked_more, never_none}
use Rattle.modifiers.proofs.Laws.{entries_rise}
use Rattle.modifiers.specs.Lists.{entries}
use Rattle.checks.proofs.verifying.verify_modifiers.Goals as goal

pub returns-in_default : goal.returns-in_default
returns-in_default g c =
    let e = c.len-i-end.ensures in
    absurd (never_none (entries c.args.modifiers) c.loop-i.i (omega arith) c.in_default.ensures)

pub loop-i-preserved : goal.loop-i-preserved
loop-i-preserved g c =
    let e = c.len-i-end.ensures in
    let k = c.args.check.now in
    checked_more k.allowed.bits k.strict (g.W.Wording.says k.wording) (entries c.args.modifiers) c.loop-i.i c.in-Some.m (omega arith) c.in-Some.ensures c.loop-i.invariant c.verify_one.ensures

pub returns : goal.returns
returns g c =
    let e = c.len-i-end.ensures in
    let k = c.args.check.now in
    let l : length (entries c.args.modifiers) ≤ c.loop-i.i = omega arith in
    record {
      noted = rw (take_all c.loop-i.i (entries c.args.modifiers) l) at c.loop-i.invariant;
      once = λ kept h. checked_lasts k.allowed.bits k.strict (g.W.Wording.says k.wording) kept (entries c.args.modifiers) h (entries_rise c.args.modifiers);
    }
