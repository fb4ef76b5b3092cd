-- Decorators.
use Rattle.std.specs.Prelude.{ℕ, List, [], ◌∷◌, Ok, Err, Result}
use Rattle.dialogue.specs.declared.Fatal.{Fatal}
use Rattle.parts.specs.declared.Span.{Span}
use Rattle.records.specs.Decorators.{spans_of}
use Rattle.records.specs.declared.decorators.Decorators.{Decorators}
use Rattle.reports.specs.Reports.{at_place}
use Rattle.reports.specs.declared.Report.{Report}

-- the spans of decorators that were read
abbrev pub spans_in : Result Decorators Fatal → Result (List Span) Fatal
spans_in (Ok d) = Ok (spans_of d)
spans_in (Err e) = Err e

-- a rule at each decorator
abbrev pub decorator_reports : ℕ → List Span → List Report
decorator_reports rule [] = []
decorator_reports rule (d ∷ ds) = at_place rule d ∷ decorator_reports rule ds
