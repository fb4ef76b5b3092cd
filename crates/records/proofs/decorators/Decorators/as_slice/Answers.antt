use Rattle.std.proofs.Common.{refl}
use Rattle.records.specs.Decorators.{spans_of}
use Rattle.records.proofs.decorators.Decorators.as_slice.Goals as goal

pub returns : goal.returns
unfolding spans_of
returns c = rw c.from.ensures refl
