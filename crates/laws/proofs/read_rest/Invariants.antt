use Rattle.std.proofs.Common.{◌-◌, length}
use Rattle.list.specs.Lists.{listed, room}
use Rattle.laws.proofs.Bodies.{Going}
use Rattle.session.specs.Worlds.{world}
use Rattle.laws.proofs.read_rest.Given as goal

abbrev pub invariant-loop-session : goal.invariant-loop-session
invariant-loop-session g l =
    Going (world g.S.TokenReader l.initial.session l.initial.script l.initial.reports l.initial.members)
    (world g.S.TokenReader l.session l.script l.reports l.members)

abbrev pub decreases-loop-session : goal.decreases-loop-session
decreases-loop-session g l = room l.members - length (listed l.members)
