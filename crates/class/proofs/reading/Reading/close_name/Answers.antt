use Rattle.std.proofs.Common.{sym, ap, rules}
use Rattle.class.proofs.Steps.{done_is, spoke_as}
use Rattle.dialogue.proofs.Steps.{eat_no, eat_yes}
use Rattle.dialogue.specs.Dialogues.{stop}
use Rattle.dialogue.specs.declared.Fatal.TheVariants.{ExpectToken}
use Rattle.class.specs.Naming.{closed_d}
use Rattle.class.proofs.reading.Reading.close_name.Goals as goal

pub returns-then-is : goal.returns-then-is
unfolding closed_d
returns-then-is g c = record { spoke = eat_yes _ _ _ c.current-t.ensures.value (sym c.if-is.ensures) c.take.ensures (done_is c.name_at.ensures); kept = search rules }

pub returns : goal.returns
unfolding closed_d
returns g c = record { spoke = eat_no _ _ _ c.current-t.ensures.value (sym c.if-is.ensures) (spoke_as (ap (stop ExpectToken) c.from.ensures) (c.stop.ensures _)); kept = search rules }
