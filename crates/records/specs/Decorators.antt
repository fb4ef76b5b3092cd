-- The decorators of a member.
use Rattle.std.specs.Prelude.{List, take}
use Rattle.parts.specs.declared.Span.{Span}
use Rattle.records.specs.declared.decorators.Decorators.{Decorators}

-- their spans, in the order in which they stand (it opens by name only, so that proofs speak of a list)
unfoldable pub spans_of : Decorators → List Span
spans_of d = take d.count d.spans
