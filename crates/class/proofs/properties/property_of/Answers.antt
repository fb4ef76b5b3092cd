use Rattle.std.proofs.Common.{rules}
use Rattle.class.specs.Properties.{property_of}
use Rattle.class.proofs.properties.property_of.Goals as goal

pub returns : goal.returns
unfolding property_of
returns c = search rules
