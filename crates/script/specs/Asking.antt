-- What a reader answers where it stands, in a context that is given by its bits.
use Rattle.std.specs.Prelude.{ℕ, Bool}
use Rattle.parts.specs.declared.MethodFacts.{MethodFacts}
use Rattle.parts.specs.declared.Part.{Part}
use Rattle.parts.specs.declared.Span.{Span}
use Rattle.reader.specs.Answers.{Answer}
use Rattle.reader.specs.Scenes.{Scene}

abbrev pub part_at : Part → ℕ → Scene → Answer Span
part_at p c s = s.answers.part p c s.tokens

abbrev pub method_at : ℕ → Scene → Answer MethodFacts
method_at c s = s.answers.method c s.tokens

abbrev pub index_at : ℕ → Scene → Bool
index_at c s = s.answers.index c s.tokens
