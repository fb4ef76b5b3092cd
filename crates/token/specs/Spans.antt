-- Where a token stands.
use Rattle.parts.specs.declared.Span.{Span}
use Rattle.token.specs.declared.Token.{Token}

abbrev pub span_of : Token → Span
span_of t = record { start = t.start; end = t.end }
