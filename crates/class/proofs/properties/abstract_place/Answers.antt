use Rattle.std.proofs.Common.{Bool, cond, Some, None, ap, ◌∙◌}
use Rattle.class.specs.Properties.{entry_place}
use Rattle.modifiers.specs.Lists.{entries}
use Rattle.class.proofs.Steps.{entry_fits}
use Rattle.kinds.specs.declared.modifier_kind.ModifierKind.TheVariants.{Abstract}
use Rattle.modifiers.proofs.Laws.{entries_fit}
use Rattle.modifiers.specs.Entries.{place_of}
use Rattle.class.proofs.properties.abstract_place.Goals as goal

pub returns : goal.returns
returns c =
    let w = c.in_ok-word.word in
    let f = entry_fits Abstract (entries c.args.modifiers) w (entries_fit c.args.modifiers) c.in_ok-word.ensures in
    c.place.ensures ∙ ap (λ (b : Bool). cond b (Some (place_of w)) None) f ∙ ap entry_place c.in_ok-word.ensures
