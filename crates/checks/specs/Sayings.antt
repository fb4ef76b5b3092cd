-- What checks say, whatever their wording is.
use Rattle.std.specs.Prelude.{ℕ, Bool, cond, List, [], ◌∷◌, ◌++◌, Some, None, Option}
use Rattle.kinds.specs.Modifiers.{modifier_number}
use Rattle.kinds.specs.declared.modifier_kind.ModifierKind.{ModifierKind}
use Rattle.keywords.specs.Run.{place_of}
use Rattle.modifiers.specs.declared.modifier.Modifier.{Modifier}
use Rattle.parts.specs.declared.Span.{Span}
use Rattle.reports.specs.Reports.{keyword_report}
use Rattle.reports.specs.declared.Report.{Report}
use Rattle.small_set.specs.Members.{member}

-- a rule, and the set of kinds that the report tells, if any
pub record Saying : Type 0 where
  pub rule : ℕ
  pub tells : Option ℕ

-- the report that says it of a keyword at its place
abbrev pub said_of : Saying → ModifierKind → Span → Report
said_of s k p = keyword_report s.rule k p None s.tells

-- what a wording is given: the allowed set, where the check is strict
abbrev pub given : Bool → ℕ → Option ℕ
given strict allowed = cond strict (Some allowed) None

-- a report, unless something holds
abbrev pub report_unless : Bool → Report → List Report
report_unless b r = cond b [] (r ∷ [])

-- a report of each kept keyword outside the allowed set, in the order of the list
abbrev pub disallowed_reports : ℕ → Bool → (ModifierKind → Option ℕ → Saying) → List Modifier → List Report
disallowed_reports allowed strict says [] = []
disallowed_reports allowed strict says (m ∷ ms) =
    report_unless (member allowed (modifier_number m.kind)) (said_of (says m.kind (given strict allowed)) m.kind (place_of m))
    ++ disallowed_reports allowed strict says ms
