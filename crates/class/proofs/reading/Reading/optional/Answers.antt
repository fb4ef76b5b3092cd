use Rattle.std.proofs.Common.{Some, sym, refl, ap, rules}
use Rattle.class.specs.Taking.{optional_d}
use Rattle.class.proofs.Steps.{done_is}
use Rattle.dialogue.proofs.Steps.{eat_no, eat_yes}
use Rattle.class.proofs.reading.Reading.optional.Goals as goal

pub returns-then-is : goal.returns-then-is
unfolding optional_d
returns-then-is g c = record { spoke = eat_yes _ _ _ c.current-t.ensures.value (sym c.if-is.ensures) c.take.ensures (done_is (ap Some c.from.ensures)); kept = search rules }

pub returns : goal.returns
unfolding optional_d
returns g c = record { spoke = eat_no _ _ _ c.current-t.ensures.value (sym c.if-is.ensures) (done_is refl); kept = search rules }
