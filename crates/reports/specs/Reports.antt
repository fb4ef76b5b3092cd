-- Reports, by what they tell.
use Rattle.std.specs.Prelude.{ℕ, Some, None, Option}
use Rattle.kinds.specs.Modifiers.{modifier_number}
use Rattle.kinds.specs.declared.modifier_kind.ModifierKind.{ModifierKind}
use Rattle.kinds.specs.declared.modifier_kinds.ModifierKinds.{ModifierKinds}
use Rattle.parts.specs.declared.Span.{Span}
use Rattle.reports.specs.declared.Report.{Report}

-- a kind by its number, 255 for none
abbrev pub kind_or_255 : Option ModifierKind → ℕ
kind_or_255 None = 255
kind_or_255 (Some k) = modifier_number k

-- the bits of a set, and 65535 for none
abbrev pub bits_of : Option ModifierKinds → Option ℕ
bits_of None = None
bits_of (Some s) = Some s.bits

abbrev pub set_or_65535 : Option ℕ → ℕ
set_or_65535 None = 65535
set_or_65535 (Some bits) = bits

-- a rule at a place
abbrev pub at_place : ℕ → Span → Report
at_place rule p = record { rule = rule; start = p.start; end = p.end; kind = 255; other = 255; allowed = 65535 }

-- a rule about a keyword at its place, perhaps with another keyword or the set that is allowed there
abbrev pub keyword_report : ℕ → ModifierKind → Span → Option ModifierKind → Option ℕ → Report
keyword_report rule k p other allowed =
    record {
      rule = rule;
      start = p.start;
      end = p.end;
      kind = modifier_number k;
      other = kind_or_255 other;
      allowed = set_or_65535 allowed;
    }
