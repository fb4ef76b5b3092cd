use Rattle.std.proofs.Common.{refl}
use Rattle.modifiers.specs.Lists.{entries}
use Rattle.modifiers.proofs.modifiers.Modifiers.none.Goals as goal

pub returns : goal.returns
unfolding entries
returns c = refl
