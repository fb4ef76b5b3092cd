use Rattle.std.proofs.Common.{get_or}
use Rattle.std.proofs.lemmas.List.{take_more}
use Rattle.laws.proofs.Chains.{performed_more}
use Rattle.session.specs.declared.state.Call.TheVariants.{Open}
use Rattle.laws.proofs.perform.Goals as goal

pub loop-call-preserved : goal.loop-call-preserved
loop-call-preserved g c =
    let calls = c.args.calls.now in
    let i = c.loop-call.call-index in
    rw (take_more calls i Open c.loop-call-test.true)
    (performed_more (get_or calls i Open) c.loop-call.invariant c.make-outcome.ensures c.push.ensures.noted)
