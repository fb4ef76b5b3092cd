use Rattle.std.proofs.Common.{refl, rules}
use Rattle.class.proofs.Steps.{done_is, passed_on}
use Rattle.class.specs.Forms.{block_d}
use Rattle.class.specs.Taking.{part_d}
use Rattle.dialogue.proofs.Sequels.{then_spoke}
use Rattle.dialogue.proofs.Steps.{check_spoke, eat_yes, note_spoke}
use Rattle.parts.specs.declared.Part.TheVariants.{Block}
use Rattle.class.proofs.reading.Reading.read_block.Goals as goal

pub returns : goal.returns
unfolding block_d
returns g c =
    record {
      spoke =
          note_spoke _ _ refl c.note_decorators.ensures (check_spoke _ _ _ c.run_check.ensures
          (eat_yes _ _ _ refl refl c.take.ensures (then_spoke _ (part_d Block _) c.in_ok-span.ensures.spoke (done_is refl))));
      kept = search rules;
      context = search rules;
    }

pub returns-in_err-span : goal.returns-in_err-span
unfolding block_d
returns-in_err-span g c =
    record {
      spoke =
          note_spoke _ _ refl c.note_decorators.ensures (check_spoke _ _ _ c.run_check.ensures
          (eat_yes _ _ _ refl refl c.take.ensures (passed_on _ (part_d Block _) c.from_residual.ensures.1 c.in_err-span.ensures.spoke)));
      kept = search rules;
      context = search rules;
    }
