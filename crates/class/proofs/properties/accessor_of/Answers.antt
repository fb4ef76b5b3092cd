use Rattle.std.proofs.Common.{rules}
use Rattle.class.specs.Properties.{accessor_of}
use Rattle.class.proofs.properties.accessor_of.Goals as goal

pub returns : goal.returns
unfolding accessor_of
returns c = search rules
