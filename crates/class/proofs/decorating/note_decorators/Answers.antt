use Rattle.std.proofs.Common.{take_all}
use Rattle.class.proofs.Decorators.{reported_more}
use Rattle.rules.specs.Rules.{rule_number}
use Rattle.class.proofs.decorating.note_decorators.Goals as goal

pub loop-span-preserved : goal.loop-span-preserved
loop-span-preserved c = reported_more (rule_number c.args.rule) c.as_slice-span-items.result.now c.loop-span.span-index _ c.loop-span-test.true c.loop-span.invariant c.note.ensures

pub returns : goal.returns
returns c =
    rw (← c.as_slice-span-items.ensures)
    (rw (take_all c.loop-span.span-index c.as_slice-span-items.result.now c.loop-span-test.false) at c.loop-span.invariant)
