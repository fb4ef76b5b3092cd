use Rattle.std.proofs.Common.{rules}
use Rattle.class.proofs.Steps.{passed_on}
use Rattle.class.specs.Properties.{property_close_d, property_d, typed_d}
use Rattle.class.specs.Taking.{semicolon_d}
use Rattle.dialogue.proofs.Sequels.{then_spoke}
use Rattle.class.proofs.reading.Reading.read_property.Goals as goal

pub returns : goal.returns
unfolding property_d property_close_d
returns g c =
    record {
      spoke = then_spoke _ (typed_d _ _) c.in_ok-typed.ensures.spoke (then_spoke _ semicolon_d c.in_ok-take_semicolon.ensures.spoke (c.end_property.ensures _));
      kept = search rules;
      context = search rules;
    }

pub returns-in_err-typed : goal.returns-in_err-typed
unfolding property_d
returns-in_err-typed g c = record { spoke = passed_on _ (typed_d _ _) c.from_residual.ensures.1 c.in_err-typed.ensures.spoke; kept = search rules; context = search rules }

pub returns-in_err-take_semicolon : goal.returns-in_err-take_semicolon
unfolding property_d property_close_d
returns-in_err-take_semicolon g c =
    record {
      spoke =
          then_spoke _ (typed_d _ _) c.in_ok-typed.ensures.spoke
          (passed_on _ semicolon_d c.from_residual-in_err-take_semicolon.ensures.1 c.in_err-take_semicolon.ensures.spoke);
      kept = search rules;
      context = search rules;
    }
