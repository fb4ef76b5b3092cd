use Rattle.std.proofs.Common.{◌≡◌, true, ◌-◌}
use Rattle.reader.specs.Scenes.{past, scene}
use Rattle.reader.specs.Sound.{sound}
use Rattle.prepared.proofs.taking.take_many.Given as goal

abbrev pub invariant-loop : goal.invariant-loop
invariant-loop g l =
    record {
      taken : past (l.count - l.counter) (scene g.R.TokenReader l.r) ≡ past l.count (scene g.R.TokenReader l.initial.r);
      sound : sound (g.R.TokenReader.tokens l.initial.r) ≡ true → sound (g.R.TokenReader.tokens l.r) ≡ true;
    }
