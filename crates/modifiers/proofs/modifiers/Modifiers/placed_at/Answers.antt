use Rattle.std.proofs.Common.{◌≡◌, cond, Some, None, sym, ap, ◌∙◌}
use Rattle.modifiers.specs.Entries.{fits, place_of}
use Rattle.modifiers.specs.Lists.{entries}
use Rattle.modifiers.proofs.Held.{all_found}
use Rattle.modifiers.proofs.Laws.{entries_fit}
use Rattle.modifiers.proofs.modifiers.Modifiers.placed_at.Goals as goal

-- What stands in the list ends within 32 bits.
pub returns-in_err-place : goal.returns-in_err-place
returns-in_err-place c =
    let m = c.in_ok-m.m in
    let fit = all_found fits (entries c.args.self) c.args.i m (entries_fit c.args.self) (sym c.in_ok-m.ensures) in
    let some : None ≡ Some (place_of m) = sym c.in_err-place.was ∙ c.place.ensures ∙ ap (λ b. cond b (Some (place_of m)) None) fit in
    cc
