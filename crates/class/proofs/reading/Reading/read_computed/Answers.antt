use Rattle.std.proofs.Common.{rules}
use Rattle.dialogue.proofs.Sequels.{then_spoke}
use Rattle.parts.specs.declared.Part.TheVariants.{Expression}
use Rattle.class.proofs.Steps.{passed_on}
use Rattle.class.specs.Naming.{closed_d, computed_d}
use Rattle.class.specs.Taking.{part_d}
use Rattle.class.proofs.reading.Reading.read_computed.Goals as goal

pub returns : goal.returns
unfolding computed_d
returns g c = record { spoke = then_spoke closed_d (part_d Expression _) c.in_ok-span.ensures.spoke c.close_name.ensures.spoke; kept = search rules; context = search rules }

pub returns-in_err-span : goal.returns-in_err-span
unfolding computed_d
returns-in_err-span g c = record { spoke = passed_on closed_d (part_d Expression _) c.from_residual.ensures.1 c.in_err-span.ensures.spoke; kept = search rules; context = search rules }
