use Rattle.std.proofs.Common.{lt_of_le_of_lt}
use lib.Bits.{and_le_l, xor_lt}
use Rattle.small_set.proofs.Bits.{minus_member}
use Rattle.small_set.proofs.difference.Goals as goal

pub returns : goal.returns
returns c =
    let a = c.args.a in
    let b = c.args.b in
    record { each = minus_member a b; within = λ n h. xor_lt n _ _ h (lt_of_le_of_lt (and_le_l a b) h) }
