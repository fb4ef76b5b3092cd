use Rattle.std.proofs.Common.{refl, rules}
use Rattle.class.proofs.Steps.{passed_on}
use Rattle.class.specs.Properties.{accessor_named_d, accessor_property_close_d, accessor_property_d, typed_d}
use Rattle.class.specs.Taking.{inserted_d}
use Rattle.dialogue.proofs.Sequels.{then_spoke}
use Rattle.dialogue.proofs.Steps.{note_spoke}
use Rattle.class.proofs.reading.Reading.read_accessor_property.Goals as goal

pub returns : goal.returns
unfolding accessor_named_d accessor_property_d accessor_property_close_d
returns g c =
    record {
      spoke =
          note_spoke _ _ refl c.note_accessor_name.ensures
          (then_spoke _ (typed_d _ _) c.in_ok-typed.ensures.spoke
          (then_spoke _ inserted_d c.in_ok-take_inserted.ensures.spoke (c.end_accessor_property.ensures _)));
      kept = search rules;
      context = search rules;
    }

pub returns-in_err-typed : goal.returns-in_err-typed
unfolding accessor_named_d accessor_property_d
returns-in_err-typed g c =
    record {
      spoke = note_spoke _ _ refl c.note_accessor_name.ensures (passed_on _ (typed_d _ _) c.from_residual.ensures.1 c.in_err-typed.ensures.spoke);
      kept = search rules;
      context = search rules;
    }

pub returns-in_err-take_inserted : goal.returns-in_err-take_inserted
unfolding accessor_named_d accessor_property_d accessor_property_close_d
returns-in_err-take_inserted g c =
    record {
      spoke =
          note_spoke _ _ refl c.note_accessor_name.ensures
          (then_spoke _ (typed_d _ _) c.in_ok-typed.ensures.spoke (passed_on _ inserted_d c.from_residual-in_err-take_inserted.ensures.1 c.in_err-take_inserted.ensures.spoke));
      kept = search rules;
      context = search rules;
    }
