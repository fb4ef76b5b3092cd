use Rattle.std.proofs.Common.{◌≡◌, length}
use Rattle.reader.specs.Sound.{all_placed}
use Rattle.table.proofs.questions.are_placed.Given as goal

abbrev pub invariant-loop-rest : goal.invariant-loop-rest
invariant-loop-rest l = all_placed l.rest ≡ all_placed l.ts

abbrev pub decreases-loop-rest : goal.decreases-loop-rest
decreases-loop-rest l = length l.rest
