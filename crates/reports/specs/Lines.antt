-- Reports as they are printed.
use Rattle.std.specs.Prelude.{ℕ, List, [], ◌∷◌, ◌++◌, if◌then◌else◌, Some, None, codes, Option, ◌==◌}
use Rattle.std.specs.Fmt.{decimal}
use Rattle.reports.specs.declared.Report.{Report}

-- a number, but for the one that stands for none
abbrev pub but : ℕ → ℕ → Option ℕ
but none n = if n == none then None else Some n

-- a number, or a dash for none
abbrev pub or_dash : Option ℕ → List ℕ
or_dash None = codes "-"
or_dash (Some n) = decimal n

-- texts with a space between each two
abbrev pub spaced : List (List ℕ) → List ℕ
spaced [] = []
spaced (t ∷ []) = t
spaced (t ∷ u ∷ ts) = t ++ (codes " " ++ spaced (u ∷ ts))

-- the line of a report: the rule, the place, and the kind, the other kind and the allowed set by their numbers
abbrev pub line : Report → List ℕ
line r = spaced (decimal r.rule ∷ decimal r.start ∷ decimal r.end ∷ or_dash (but 255 r.kind) ∷ or_dash (but 255 r.other) ∷ or_dash (but 65535 r.allowed) ∷ [])
