-- The verdict as it is printed.
use Rattle.std.specs.Prelude.{ℕ, List, [], ◌∷◌, codes}
use Rattle.std.specs.Fmt.{decimal}
use Rattle.refusal.specs.Questions.{number_of}
use Rattle.reports.specs.Lines.{or_dash, spaced}
use Rattle.session.specs.Worlds.{fatal_of, rule_of}
use Rattle.gate.specs.declared.Verdict.{Verdict}

-- how many reports are kept, how many were missed, how many members there are, the fatal rule and the refusal
abbrev pub line : Verdict → List ℕ
line v =
    spaced
    (codes "="
    ∷ decimal v.standing.kept
    ∷ decimal v.standing.missed
    ∷ decimal v.standing.members
    ∷ or_dash (rule_of (fatal_of v.standing.state))
    ∷ or_dash (number_of v.refusal)
    ∷ [])
