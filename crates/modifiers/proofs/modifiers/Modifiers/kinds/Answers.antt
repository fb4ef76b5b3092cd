use Rattle.modifiers.proofs.Laws.{entries_kinds}
use Rattle.modifiers.proofs.modifiers.Modifiers.kinds.Goals as goal

pub returns : goal.returns
returns c = entries_kinds c.args.self
