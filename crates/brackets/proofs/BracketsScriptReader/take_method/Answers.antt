use Rattle.brackets.proofs.Answering.{keeps}
use Rattle.brackets.proofs.Laws.{lawful}
use Rattle.brackets.proofs.BracketsScriptReader.take_method.Goals as goal

pub returns : goal.returns
returns g c =
    let w = c.method.ensures in
    record { value = w.value; after = w.after; sound = keeps w; lawful = lawful }
