use Rattle.std.proofs.Common.{take}
use Rattle.laws.specs.Chains.{Performed}
use Rattle.session.specs.Worlds.{world}
use Rattle.laws.proofs.perform.Given as goal

abbrev pub invariant-loop-call : goal.invariant-loop-call
invariant-loop-call g l =
    Performed (take l.call-index l.calls)
    (world g.S.TokenReader l.initial.session l.initial.script l.initial.reports l.initial.members)
    (world g.S.TokenReader l.session l.script l.reports l.members)
    l.initial.told
    l.told
