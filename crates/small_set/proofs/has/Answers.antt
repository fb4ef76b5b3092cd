use Rattle.std.proofs.Common.{refl}
use Rattle.small_set.specs.Members.{member}
use Rattle.small_set.proofs.has.Goals as goal

pub returns : goal.returns
unfolding member
returns c = refl
