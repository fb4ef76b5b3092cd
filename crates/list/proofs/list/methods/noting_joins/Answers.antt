use Rattle.std.proofs.Common.{refl}
use Rattle.list.proofs.Noting.{note_join}
use Rattle.list.proofs.list.methods.noting_joins.Goals as goal

pub returns : goal.returns
returns g c = record { value = refl; joins = note_join }
