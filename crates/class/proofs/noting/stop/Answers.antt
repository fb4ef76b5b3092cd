use Rattle.std.proofs.Common.{refl, ap}
use Rattle.dialogue.proofs.Steps.{stop_spoke}
use Rattle.reports.specs.Reports.{at_place}
use Rattle.rules.specs.Rules.{rule_number}
use Rattle.rules.specs.declared.Rule.{Rule}
use Rattle.class.proofs.noting.stop.Goals as goal

pub returns : goal.returns
returns g c = λ s. stop_spoke c.args.fatal c.args.place refl (ap (λ (r : Rule). at_place (rule_number r) c.args.place) c.from.ensures) c.note.ensures
