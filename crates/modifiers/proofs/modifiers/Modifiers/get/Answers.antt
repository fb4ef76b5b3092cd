use Rattle.std.proofs.Common.{◌≡◌, Bool, true, false, cond, get_or, take, Some, None, sym, refl, ◌∙◌, ap₂}
use Rattle.std.specs.Bool.{then_some}
use Rattle.modifiers.specs.Entries.{word_at}
use Rattle.modifiers.specs.Lists.{entries}
use Rattle.modifiers.specs.declared.modifier.Modifier.{Modifier}
use Rattle.modifiers.proofs.Held.{entry_found}
use Rattle.modifiers.proofs.modifiers.Modifiers.get.Goals as goal

chosen : (b : Bool) (m : Modifier) → then_some b m ≡ cond b (Some m) None
chosen true m = refl
chosen false m = refl

pub returns : goal.returns
unfolding entries
returns c =
    let m = c.args.self in
    let kind = c.args.kind in
    c.then_some.ensures ∙ ap₂ (λ b n. then_some b (word_at kind (get_or m.starts n 0))) c.contains.ensures c.number.ensures
    ∙ chosen _ _
    ∙ sym (entry_found m.starts kind (take m.len m.order) m.known)
