use Rattle.std.proofs.Common.{take}
use Rattle.class.specs.Decorating.{decorator_reports}
use Rattle.list.specs.Lists.{Noted}
use Rattle.rules.specs.Rules.{rule_number}
use Rattle.class.proofs.decorating.note_decorators.Given as goal

abbrev pub invariant-loop-span : goal.invariant-loop-span
invariant-loop-span l = Noted l.initial.reports l.reports (decorator_reports (rule_number l.rule) (take l.span-index l.span-items))
