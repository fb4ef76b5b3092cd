use Rattle.std.proofs.Common.{rules, ◌∙◌}
use Rattle.std.proofs.lemmas.Iterator.{YieldsList-from_slice}
use Rattle.std.proofs.lemmas.Iterator.Search.{find_from_yields_List}
use Rattle.prepared.specs.Records.{stands}
use Rattle.prepared.proofs.records.find.Goals as goal

pub returns : goal.returns
returns c =
    c.copied.ensures
    ∙ find_from_yields_List (stands c.args.asked c.args.start) _ _ _ c.find.ensures.ran (YieldsList-from_slice c.args.records.now (cc)) (λ x b q k. search rules)
