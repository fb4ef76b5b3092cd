use Rattle.class.specs.Taking.{part_d}
use Rattle.dialogue.proofs.Steps.{part_spoke}
use Rattle.class.proofs.taking.take_part.Goals as goal

pub returns : goal.returns
unfolding part_d
returns g c = part_spoke _ _ _ c.take_part.ensures.value c.take_part.ensures.after (c.settle.ensures _)
