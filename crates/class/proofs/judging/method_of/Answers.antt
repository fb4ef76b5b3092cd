use Rattle.std.proofs.Common.{rules}
use Rattle.class.specs.Methods.{method_of}
use Rattle.class.proofs.judging.method_of.Goals as goal

pub returns : goal.returns
unfolding method_of
returns c = search rules
