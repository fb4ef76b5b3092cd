use Rattle.std.proofs.Common.{◌≡◌, ◌-◌, ◌^◌, ◌≤◌, length}
use Rattle.reader.specs.Scenes.{past, scene}
use Rattle.brackets.proofs.Listing.{finish, left_count, left_parts}
use Rattle.brackets.proofs.parameters.take_parameters.Given as goal

abbrev pub invariant-loop-r : goal.invariant-loop-r
invariant-loop-r g l =
    record {
      after : past (left_count (g.R.TokenReader.tokens l.r)) (scene g.R.TokenReader l.r) ≡ past (left_count (g.R.TokenReader.tokens l.initial.r)) (scene g.R.TokenReader l.initial.r);
      value : finish l.found (left_parts (g.R.TokenReader.tokens l.r)) ≡ finish l.initial.found (left_parts (g.R.TokenReader.tokens l.initial.r));
      few : l.found.count ≤ 2 ^ 32 - 1;
    }

abbrev pub decreases-loop-r : goal.decreases-loop-r
decreases-loop-r g l = length (g.R.TokenReader.tokens l.r)
