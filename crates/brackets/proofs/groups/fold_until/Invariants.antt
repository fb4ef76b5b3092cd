use Rattle.std.proofs.Common.{◌≡◌, ℕ, Bool, length}
use Rattle.reader.specs.Scenes.{past, scene}
use Rattle.token.specs.declared.Token.{Token}
use Rattle.brackets.specs.Depth.{folded, up_to}
use Rattle.brackets.specs.Walks.{EndsWhere, StepsBy}
use Rattle.brackets.proofs.groups.fold_until.Given as goal

abbrev pub invariant-loop-t : goal.invariant-loop-t
invariant-loop-t g l =
    record {
      value : (stops : ℕ → Token → Bool) (step : ℕ → Token → g.row.S.Denot → g.row.S.Denot) → EndsWhere stops (goal.E-post g l.ends) → StepsBy step (goal.F-post g l.with) →
          folded step l.depth l.told (up_to stops l.depth (g.R.TokenReader.tokens l.r)) ≡ folded step l.initial.depth l.initial.told (up_to stops l.initial.depth (g.R.TokenReader.tokens l.initial.r));
      after : (stops : ℕ → Token → Bool) → EndsWhere stops (goal.E-post g l.ends) →
          past (length (up_to stops l.depth (g.R.TokenReader.tokens l.r))) (scene g.R.TokenReader l.r) ≡ past (length (up_to stops l.initial.depth (g.R.TokenReader.tokens l.initial.r))) (scene g.R.TokenReader l.initial.r);
    }

abbrev pub decreases-loop-t : goal.decreases-loop-t
decreases-loop-t g l = length (g.R.TokenReader.tokens l.r)
