use Rattle.std.proofs.Common.{rules}
use Rattle.class.specs.Forms.{element_checks_d}
use Rattle.class.specs.Members.{index_or_named_d}
use Rattle.dialogue.proofs.Sequels.{then_spoke}
use Rattle.dialogue.proofs.Steps.{index_spoke, test_false, test_true}
use Rattle.class.proofs.reading.Reading.read_index_or_named.Goals as goal

pub returns-then-starts_index : goal.returns-then-starts_index
unfolding index_or_named_d
returns-then-starts_index g c = record { spoke = index_spoke _ _ c.starts_index.ensures.value (test_true _ _ _ c.if-starts_index.true c.read_index.ensures.spoke); kept = search rules; context = search rules }

pub returns : goal.returns
unfolding index_or_named_d
returns g c = record { spoke = index_spoke _ _ c.starts_index.ensures.value (test_false _ _ _ c.if-starts_index.false (then_spoke _ (element_checks_d _ _) (c.check_element.ensures _) c.read_named_form.ensures.spoke)); kept = search rules; context = search rules }
