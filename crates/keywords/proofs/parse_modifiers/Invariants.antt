use Rattle.std.proofs.Common.{length}
use Rattle.keywords.proofs.Reading.{Read}
use Rattle.modifiers.specs.Lists.{entries}
use Rattle.reader.specs.Scenes.{scene}
use Rattle.keywords.proofs.parse_modifiers.Given as goal

abbrev pub invariant-loop-kind : goal.invariant-loop-kind
invariant-loop-kind g l =
    Read l.settings (scene g.R.TokenReader l.initial.script) (scene g.R.TokenReader l.script) (entries l.kept) l.initial.reports l.reports

abbrev pub decreases-loop-kind : goal.decreases-loop-kind
decreases-loop-kind g l = length (g.R.TokenReader.tokens l.script)
