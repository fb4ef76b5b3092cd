-- That a dialogue was held: what came of it, what the reader means afterwards, and what was noted in the report list.
use Rattle.std.specs.Prelude.{◌≡◌, Result}
use Rattle.dialogue.specs.Dialogues.{Dialogue, after, gains, outcome}
use Rattle.dialogue.specs.declared.Fatal.{Fatal}
use Rattle.list.specs.Lists.{Noted}
use Rattle.list.specs.declared.list.List.{List}
use Rattle.reader.specs.Scenes.{Scene}
use Rattle.reports.specs.declared.Report.{Report}

pub record Spoke {A : Type 0} (d : Dialogue A) (s s' : Scene) (l l' : List Report) (r : Result A Fatal) : Type 0 where
  pub value : r ≡ outcome d s
  pub means : s' ≡ after d s
  pub reports : Noted l l' (gains d s)
