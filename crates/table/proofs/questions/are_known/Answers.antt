use Rattle.std.proofs.Common.{◌∙◌, rules, tests}
use Rattle.std.proofs.lemmas.Iterator.{YieldsList-from_slice}
use Rattle.std.proofs.lemmas.Iterator.Search.{all_from_yields_List}
use Rattle.reader.specs.Sound.{known}
use Rattle.table.proofs.Walking.{all_known-by}
use Rattle.table.proofs.questions.are_known.Goals as goal

pub returns : goal.returns
returns c =
    let ts = c.args.ts.now in
    all_from_yields_List known _ _ _ c.all.ensures.ran (YieldsList-from_slice ts (cc)) (λ x b q k. search (rules, tests)) ∙ all_known-by ts
