use Rattle.std.proofs.Common.{◌≤◌, ◌<◌, length, take, arith, length-set, length-take, take_all}
use Rattle.modifiers.proofs.Held.{step_other, step_same}
use Rattle.modifiers.proofs.modifiers.methods.others.Goals as goal
use Rattle.modifiers.proofs.modifiers.methods.others.Goals.{then-x-n, else-x-n}

pub loop-x-preserved : goal.loop-x-preserved
loop-x-preserved c =
    let n = c.args.n in
    let from = take c.args.len c.args.from in
    let i = c.loop-x.x-index in
    let inside : i < length from = omega arith in
    let size = length-take c.args.len c.args.from in
    let room : c.loop-x.count < length c.loop-x.order = omega arith in
    elim c.if-x-n.branch [
      | then-x-n w ↦
          simp (w.order-is, w.count-is) (
            simp length-set c.loop-x.invariant.0,
            omega arith,
            step_other n from c.loop-x.order i c.loop-x.count inside room w.if-x-n.true c.loop-x.invariant.2,
          )
      | else-x-n w ↦
          simp (w.order-is, w.count-is) (
            c.loop-x.invariant.0,
            omega arith,
            step_same n from c.loop-x.order i c.loop-x.count inside w.if-x-n.false c.loop-x.invariant.2,
          )
    ]

pub returns : goal.returns
returns c =
    let from = take c.args.len c.args.from in
    let size = length-take c.args.len c.args.from in
    let past : length from ≤ c.loop-x.x-index = omega arith in
    record { few = omega arith; room = c.loop-x.invariant.0; kept = rw (take_all c.loop-x.x-index from past) at c.loop-x.invariant.2 }
