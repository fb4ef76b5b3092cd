-- Records of parts, and the first that stands at a place.
use Rattle.std.specs.Prelude.{ℕ, Bool, true, false, ◌&&◌, List, Option, ◌==◌}
use Rattle.std.specs.List.{find}
use Rattle.parts.specs.declared.Part.{Part}
use Rattle.parts.specs.declared.Part.TheVariants.{Decorator, Expression, TypeAnnotation, Block, IndexRest}
use Rattle.prepared.specs.declared.records.Asked.{Asked}
use Rattle.prepared.specs.declared.records.Asked.TheVariants as asked
use Rattle.prepared.specs.declared.records.PartRecord.{PartRecord}
use Rattle.prepared.specs.declared.records.Told.{Told}
use Rattle.prepared.specs.declared.records.Told.TheVariants.{Plain, Method}

-- which part a record is of
abbrev pub asked_of : Told → Asked
asked_of (Plain p r) = asked.Plain p
asked_of (Method r) = asked.Method

-- one and the same plain part
abbrev pub same_part : Part → Part → Bool
same_part Decorator Decorator = true
same_part Expression Expression = true
same_part TypeAnnotation TypeAnnotation = true
same_part Block Block = true
same_part IndexRest IndexRest = true
same_part p q = false

-- one and the same part, a method's rest among them
abbrev pub same_asked : Asked → Asked → Bool
same_asked (asked.Plain p) (asked.Plain q) = same_part p q
same_asked asked.Method asked.Method = true
same_asked a b = false

-- a record of what is asked, at a token that starts here
abbrev pub stands : Asked → ℕ → PartRecord → Bool
stands a start r = same_asked (asked_of r.told) a && r.start == start

-- the first such record
abbrev pub first_at : Asked → ℕ → List PartRecord → Option PartRecord
first_at a start rs = find (stands a start) rs
