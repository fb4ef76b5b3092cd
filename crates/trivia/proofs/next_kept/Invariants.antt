use Rattle.std.proofs.Common.{◌≡◌, false, length}
use Rattle.reader.specs.Tokens.{closed}
use Rattle.trivia.specs.Kept.{without_skips}
use Rattle.trivia.proofs.next_kept.Given as goal

abbrev pub invariant-loop-t : goal.invariant-loop-t
invariant-loop-t g l =
    closed (without_skips l.broken (g.R.TokenReader.tokens l.below)) ≡ closed (without_skips false (g.R.TokenReader.tokens l.initial.below))

abbrev pub decreases-loop-t : goal.decreases-loop-t
decreases-loop-t g l = length (g.R.TokenReader.tokens l.below)
