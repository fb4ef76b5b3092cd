use Rattle.std.proofs.Common.{sym, rules}
use Rattle.dialogue.proofs.Steps.{check_spoke, eat_no, eat_yes}
use Rattle.class.specs.Naming.{name_d}
use Rattle.class.proofs.reading.Reading.read_name.Goals as goal

pub returns-then-is : goal.returns-then-is
unfolding name_d
returns-then-is g c = record { spoke = check_spoke _ _ _ c.run_check.ensures (eat_yes _ _ _ c.current-t.ensures.value (sym c.if-is.ensures) c.take.ensures (c.check_private.ensures _)); kept = search rules; context = search rules }

pub returns : goal.returns
unfolding name_d
returns g c = record { spoke = check_spoke _ _ _ c.run_check.ensures (eat_no _ _ _ c.current-t.ensures.value (sym c.if-is.ensures) c.read_property_name.ensures.spoke); kept = search rules; context = search rules }
