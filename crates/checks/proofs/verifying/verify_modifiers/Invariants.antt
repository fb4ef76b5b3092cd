use Rattle.std.proofs.Common.{take}
use Rattle.checks.specs.Sayings.{disallowed_reports}
use Rattle.list.specs.Lists.{Noted}
use Rattle.modifiers.specs.Lists.{entries}
use Rattle.checks.proofs.verifying.verify_modifiers.Given as goal

abbrev pub invariant-loop-i : goal.invariant-loop-i
invariant-loop-i g l =
    Noted l.initial.reports l.reports
    (disallowed_reports l.check.allowed.bits l.check.strict (g.W.Wording.says l.check.wording) (take l.i (entries l.modifiers)))
