use Rattle.std.proofs.Common.{sym, refl, ap, rules}
use Rattle.class.proofs.Steps.{spoke_as}
use Rattle.class.specs.Forms.{constructor_d}
use Rattle.class.specs.Members.{accessor_or_other_d, constructor_or_other_d, form_d}
use Rattle.class.specs.declared.naming.ReadName.{ReadName}
use Rattle.dialogue.proofs.Steps.{eat_yes, look_spoke, peek_spoke, test_false, test_true}
use Rattle.modifiers.specs.Lists.{entries}
use Rattle.records.specs.Decorators.{spans_of}
use Rattle.class.proofs.reading.Reading.read_form.Goals as goal

pub returns-then-is_block : goal.returns-then-is_block
unfolding form_d
returns-then-is_block g c =
    record {
      spoke = look_spoke _ c.current-t.ensures.value (peek_spoke _ c.peek-next.ensures.value (test_true _ _ _ (sym c.if-is_block.ensures) c.read_block.ensures.spoke));
      kept = search rules;
      context = search rules;
    }

pub returns-then-is_accessor : goal.returns-then-is_accessor
unfolding form_d accessor_or_other_d
returns-then-is_accessor g c =
    record {
      spoke =
          look_spoke _ c.current-t.ensures.value (peek_spoke _ c.peek-next.ensures.value (test_false _ _ _ (sym c.if-is_block.ensures)
          (test_true _ _ _ (sym c.if-is_accessor.ensures) (eat_yes _ _ _ refl refl c.take.ensures c.read_accessor.ensures.spoke))));
      kept = search rules;
      context = search rules;
    }

pub returns-then-is_accessor-2 : goal.returns-then-is_accessor-2
unfolding form_d accessor_or_other_d
returns-then-is_accessor-2 g c =
    record {
      spoke =
          look_spoke _ c.current-t.ensures.value (peek_spoke _ c.peek-next.ensures.value (test_false _ _ _ (sym c.if-is_block.ensures)
          (test_false _ _ _ (sym c.if-is_accessor.ensures) (test_true _ _ _ (sym c.if-is_accessor-2.ensures)
          (eat_yes _ _ _ refl refl c.take-then-is_accessor-2.ensures c.read_accessor-then-is_accessor-2.ensures.spoke)))));
      kept = search rules;
      context = search rules;
    }

pub returns-then-is_constructor : goal.returns-then-is_constructor
unfolding form_d accessor_or_other_d constructor_or_other_d
returns-then-is_constructor g c =
    record {
      spoke =
          look_spoke _ c.current-t.ensures.value (peek_spoke _ c.peek-next.ensures.value (test_false _ _ _ (sym c.if-is_block.ensures)
          (test_false _ _ _ (sym c.if-is_accessor.ensures) (test_false _ _ _ (sym c.if-is_accessor-2.ensures) (test_true _ _ _ (sym c.if-is_constructor.ensures)
          (eat_yes _ _ _ refl refl c.take-then-is_constructor.ensures
          (spoke_as (ap (λ (n : ReadName). constructor_d c.args.self.now.is_ts c.args.context.now.bits (entries c.args.before.modifiers) (spans_of c.args.before.decorators) n) c.constructor_name.ensures) c.read_constructor.ensures.spoke)))))));
      kept = search rules;
      context = search rules;
    }

pub returns : goal.returns
unfolding form_d accessor_or_other_d constructor_or_other_d
returns g c =
    record {
      spoke =
          look_spoke _ c.current-t.ensures.value (peek_spoke _ c.peek-next.ensures.value (test_false _ _ _ (sym c.if-is_block.ensures)
          (test_false _ _ _ (sym c.if-is_accessor.ensures) (test_false _ _ _ (sym c.if-is_accessor-2.ensures) (test_false _ _ _ (sym c.if-is_constructor.ensures) c.read_index_or_named.ensures.spoke)))));
      kept = search rules;
      context = search rules;
    }
