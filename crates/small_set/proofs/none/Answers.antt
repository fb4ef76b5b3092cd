use Rattle.std.proofs.Common.{refl}
use Rattle.small_set.proofs.Bits.{zero_member}
use Rattle.small_set.proofs.none.Goals as goal

pub returns : goal.returns
returns c = record { each = zero_member; within = refl }
