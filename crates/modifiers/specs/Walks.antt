-- What is left of a walk over a list.
use Rattle.std.specs.Prelude.{List, map, drop}
use Rattle.modifiers.specs.Entries.{placed}
use Rattle.modifiers.specs.Lists.{entries}
use Rattle.modifiers.specs.declared.iter.Iter.{Iter}
use Rattle.modifiers.specs.declared.modifier.Placed.{Placed}

-- the keywords that are still to come, each with its place
abbrev pub left : Iter → List Placed
left i = map placed (drop i.next (entries i.modifiers))
