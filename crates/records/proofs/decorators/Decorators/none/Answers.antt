use Rattle.std.proofs.Common.{refl}
use Rattle.records.specs.Decorators.{spans_of}
use Rattle.records.proofs.decorators.Decorators.none.Goals as goal

pub returns : goal.returns
unfolding spans_of
returns c = refl
