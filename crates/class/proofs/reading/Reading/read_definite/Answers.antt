use Rattle.std.proofs.Common.{Bool, Option, sym, ap, rules}
use Rattle.class.proofs.Steps.{spoke_as}
use Rattle.class.specs.Noting.{report_at}
use Rattle.class.specs.Properties.{banged_d, definite_d}
use Rattle.class.specs.Taking.{optional_d}
use Rattle.dialogue.proofs.Sequels.{then_spoke}
use Rattle.dialogue.proofs.Steps.{note_spoke, test_false, test_true}
use Rattle.modifiers.specs.Lists.{entries}
use Rattle.parts.specs.declared.Span.{Span}
use Rattle.class.proofs.reading.Reading.read_definite.Goals as goal

pub returns-then-contains : goal.returns-then-contains
unfolding definite_d banged_d
returns-then-contains g c =
    record {
      spoke =
          then_spoke _ (optional_d _) c.optional-bang.ensures.spoke
          (spoke_as (ap (λ (b : Bool). banged_d b c.args.context.now.bits (entries c.args.modifiers) c.args.name c.args.question c.optional-bang.result) c.optional-bang.ensures.kept.is_ts)
          (note_spoke _ _ (ap (λ (o : Option Span). report_at 24 o) c.join-both.ensures) c.note_at.ensures (test_true _ _ _ (sym c.if-contains.ensures) c.read_accessor_property.ensures.spoke)));
      kept = search rules;
      context = search rules;
    }

pub returns : goal.returns
unfolding definite_d banged_d
returns g c =
    record {
      spoke =
          then_spoke _ (optional_d _) c.optional-bang.ensures.spoke
          (spoke_as (ap (λ (b : Bool). banged_d b c.args.context.now.bits (entries c.args.modifiers) c.args.name c.args.question c.optional-bang.result) c.optional-bang.ensures.kept.is_ts)
          (note_spoke _ _ (ap (λ (o : Option Span). report_at 24 o) c.join-both.ensures) c.note_at.ensures (test_false _ _ _ (sym c.if-contains.ensures) c.read_property.ensures.spoke)));
      kept = search rules;
      context = search rules;
    }
