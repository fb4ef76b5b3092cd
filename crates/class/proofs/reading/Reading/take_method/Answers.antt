use Rattle.std.proofs.Common.{rules}
use Rattle.class.specs.Taking.{method_d}
use Rattle.dialogue.proofs.Steps.{method_spoke}
use Rattle.class.proofs.reading.Reading.take_method.Goals as goal

pub returns : goal.returns
unfolding method_d
returns g c = record { spoke = method_spoke _ _ c.take_method.ensures.value c.take_method.ensures.after (c.settle.ensures _); kept = search rules }
