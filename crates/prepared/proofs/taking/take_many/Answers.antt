use Rattle.std.proofs.Common.{◌≡◌, ◌+◌, ◌-◌, arith}
use Rattle.reader.specs.Scenes.{scene}
use Rattle.prepared.proofs.Stepping.{past_less}
use Rattle.prepared.proofs.taking.take_many.Goals as goal

pub loop-preserved : goal.loop-preserved
loop-preserved g c =
    let e = past_less (c.args.count - c.loop.counter) (scene g.R.TokenReader c.loop.r) (omega arith) in
    let f : c.args.count - (c.loop.counter + 1) ≡ c.args.count - c.loop.counter - 1 = omega arith in
    record { taken = cc; sound = λ h. c.advance.ensures.sound (c.loop.invariant.sound h) }
