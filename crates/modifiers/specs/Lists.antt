-- What the kept keywords stand for.
use Rattle.std.specs.Prelude.{List, take}
use Rattle.modifiers.specs.declared.modifier.Modifier.{Modifier}
use Rattle.modifiers.specs.declared.modifiers.Modifiers.{Modifiers}
use Rattle.modifiers.specs.Entries.{listed}

-- the kept keywords in their order, each at its last start
-- (it opens by name only, so that proofs speak of a list and not of arrays)
unfoldable pub entries : Modifiers → List Modifier
entries m = listed m.starts (take m.len m.order)
