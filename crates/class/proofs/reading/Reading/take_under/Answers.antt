use Rattle.std.proofs.Common.{ap, ◌∙◌, rules}
use Rattle.class.specs.Taking.{part_d}
use Rattle.class.proofs.Steps.{under}
use Rattle.kinds.specs.declared.context.Context.{Context}
use Rattle.class.proofs.reading.Reading.take_under.Goals as goal

pub returns : goal.returns
returns g c = record { spoke = under (part_d c.args.part) (ap (λ (k : Context). k.bits) c.current.ensures ∙ c.within-guard.ensures.changed) c.take_part.ensures; kept = search rules; context = search rules }
