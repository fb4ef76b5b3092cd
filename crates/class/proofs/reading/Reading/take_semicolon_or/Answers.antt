use Rattle.std.proofs.Common.{sym, refl, rules}
use Rattle.class.proofs.Steps.{done_is}
use Rattle.dialogue.proofs.Steps.{eat_no, eat_yes, test_false, test_true}
use Rattle.class.proofs.reading.Reading.take_semicolon_or.Goals as goal

pub returns-then-is : goal.returns-then-is
returns-then-is g c = record { spoke = eat_yes _ _ _ c.current-t.ensures.value (sym c.if-is.ensures) c.take.ensures (done_is refl); kept = search rules }

pub returns-then-can_insert : goal.returns-then-can_insert
returns-then-can_insert g c = record { spoke = eat_no _ _ _ c.current-t.ensures.value (sym c.if-is.ensures) (test_true _ _ _ (sym c.if-can_insert.ensures) (done_is refl)); kept = search rules }

pub returns : goal.returns
returns g c = record { spoke = eat_no _ _ _ c.current-t.ensures.value (sym c.if-is.ensures) (test_false _ _ _ (sym c.if-can_insert.ensures) (c.stop.ensures _)); kept = search rules }
