use Rattle.std.proofs.Common.{rules}
use Rattle.std.proofs.lemmas.Result.{err_from_is_err_and}
use Rattle.class.specs.Members.{decorated_d, form_d}
use Rattle.dialogue.proofs.Sequels.{then_spoke, then_stopped}
use Rattle.dialogue.proofs.Steps.{keywords_spoke}
use Rattle.class.proofs.reading.Reading.read_decorated.Goals as goal

pub returns : goal.returns
unfolding decorated_d
returns g c = record { spoke = keywords_spoke _ _ c.parse_modifiers.ensures.read (then_spoke _ (form_d _ _ _ _) c.in_ok-form.ensures.spoke c.end_member.ensures); kept = search rules; context = search rules }

pub returns-in_err-form : goal.returns-in_err-form
unfolding decorated_d
returns-in_err-form g c =
    record {
      spoke =
          let p = err_from_is_err_and c.from_residual.result c.from_residual.ensures.1 in
          rw (p.1, p.2) (keywords_spoke _ _ c.parse_modifiers.ensures.read (then_stopped _ (form_d _ _ _ _) c.in_err-form.ensures.spoke));
      kept = search rules;
      context = search rules;
    }
