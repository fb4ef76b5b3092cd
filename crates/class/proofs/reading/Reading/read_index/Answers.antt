use Rattle.std.proofs.Common.{Bool, refl, ap₂, rules}
use Rattle.class.proofs.Steps.{done_is, passed_on}
use Rattle.class.specs.Forms.{index_d}
use Rattle.class.specs.Taking.{part_d}
use Rattle.dialogue.proofs.Sequels.{then_spoke}
use Rattle.dialogue.proofs.Steps.{check_spoke, note_spoke}
use Rattle.parts.specs.declared.Part.TheVariants.{IndexRest}
use Rattle.records.specs.declared.record.Form.TheVariants.{IndexSignature}
use Rattle.class.proofs.reading.Reading.read_index.Goals as goal

pub returns : goal.returns
unfolding index_d
returns g c =
    record {
      spoke =
          note_spoke _ _ refl c.note_decorators.ensures (check_spoke _ _ _ c.run_check.ensures
          (then_spoke _ (part_d IndexRest _) c.in_ok-rest.ensures (done_is (ap₂ (λ (a b : Bool). IndexSignature a b c.in_ok-rest.rest) c.contains.ensures c.contains-2.ensures))));
      kept = search rules;
    }

pub returns-in_err-rest : goal.returns-in_err-rest
unfolding index_d
returns-in_err-rest g c = record { spoke = note_spoke _ _ refl c.note_decorators.ensures (check_spoke _ _ _ c.run_check.ensures (passed_on _ (part_d IndexRest _) c.from_residual.ensures.1 c.in_err-rest.ensures)); kept = search rules }
