use Rattle.std.proofs.lemmas.Nat.{and_le_l, and_le_r}
use Rattle.small_set.proofs.Bits.{and_member}
use Rattle.small_set.proofs.intersection.Goals as goal

pub returns : goal.returns
returns c =
    let a = c.args.a in
    let b = c.args.b in
    record { each = and_member a b; within = (and_le_l a b, and_le_r a b) }
