use Rattle.std.proofs.Common.{[], sym, refl, rules}
use Rattle.std.proofs.lemmas.Result.{err_from_is_err_and}
use Rattle.class.proofs.Steps.{done_is, spoke_to}
use Rattle.class.specs.Members.{member_d}
use Rattle.class.specs.Taking.{decorators_d}
use Rattle.dialogue.proofs.Sequels.{then_spoke, then_stopped}
use Rattle.dialogue.proofs.Steps.{look_spoke, semicolons_spoke, test_false, test_true}
use Rattle.class.proofs.members.read_member.Goals as goal

pub returns-then-is : goal.returns-then-is
unfolding member_d
returns-then-is g c = record { spoke = semicolons_spoke _ c.skip_semicolons.ensures (look_spoke _ c.current-t.ensures.value (test_true _ _ _ (sym c.if-is.ensures) (done_is refl))); context = refl }

pub returns-clause-spoke : goal.returns-clause-spoke
unfolding member_d
returns-clause-spoke g c = spoke_to (semicolons_spoke _ c.skip_semicolons.ensures (look_spoke _ c.current-t.ensures.value (test_false _ _ _ (sym c.if-is.ensures) (then_spoke _ (decorators_d _ 16 []) c.in_ok-decorators.ensures c.read_decorated.ensures.spoke)))) (search rules) (search rules)

pub returns-in_err-decorators : goal.returns-in_err-decorators
unfolding member_d
returns-in_err-decorators g c =
    let p = err_from_is_err_and c.from_residual.result c.from_residual.ensures.1 in
    record { spoke = rw (p.1, p.2) (semicolons_spoke _ c.skip_semicolons.ensures (look_spoke _ c.current-t.ensures.value (test_false _ _ _ (sym c.if-is.ensures) (then_stopped _ (decorators_d _ 16 []) c.in_err-decorators.ensures)))); context = refl }
