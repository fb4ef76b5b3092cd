use Rattle.brackets.proofs.Answering.{as_part, keeps}
use Rattle.brackets.proofs.Laws.{lawful}
use Rattle.brackets.proofs.BracketsScriptReader.take_part.Goals as goal

pub returns-in-Decorator : goal.returns-in-Decorator
returns-in-Decorator g c =
    let w = as_part c.in-Decorator.is c.decorator.ensures in
    record { value = w.value; after = w.after; sound = keeps w; lawful = lawful }

pub returns-in-Expression : goal.returns-in-Expression
returns-in-Expression g c =
    let w = as_part c.in-Expression.is c.expression.ensures in
    record { value = w.value; after = w.after; sound = keeps w; lawful = lawful }

pub returns-in-TypeAnnotation : goal.returns-in-TypeAnnotation
returns-in-TypeAnnotation g c =
    let w = as_part c.in-TypeAnnotation.is c.annotation.ensures in
    record { value = w.value; after = w.after; sound = keeps w; lawful = lawful }

pub returns-in-Block : goal.returns-in-Block
returns-in-Block g c =
    let w = as_part c.in-Block.is c.group.ensures in
    record { value = w.value; after = w.after; sound = keeps w; lawful = lawful }

pub returns-in-IndexRest : goal.returns-in-IndexRest
returns-in-IndexRest g c =
    let w = as_part c.in-IndexRest.is c.index.ensures in
    record { value = w.value; after = w.after; sound = keeps w; lawful = lawful }
