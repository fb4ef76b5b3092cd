-- Rows of reports.
use Rattle.std.specs.Prelude.{ℕ, Bool, true, false, List, [], ◌∷◌, Some, None, Option}
use Rattle.parts.specs.declared.Span.{Span}
use Rattle.reports.specs.Reports.{at_place}
use Rattle.reports.specs.declared.Report.{Report}

-- a rule at a place, if something holds
abbrev pub report_if : Bool → ℕ → Span → List Report
report_if true rule p = at_place rule p ∷ []
report_if false rule p = []

-- a rule at a place, if there is one
abbrev pub report_at : ℕ → Option Span → List Report
report_at rule None = []
report_at rule (Some p) = at_place rule p ∷ []
