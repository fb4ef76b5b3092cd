use Rattle.std.proofs.Common.{◌≡◌, ◌%◌, sym, ap, ◌∙◌, arith}
use lib.Count.{ones}
use Rattle.small_set.specs.Members.{members}
use Rattle.small_set.proofs.Bits.{counted}
use Rattle.small_set.proofs.count.Goals as goal

pub returns : goal.returns
unfolding members
returns c =
    let e : c.args.bits % 65536 ≡ c.args.bits = omega arith in
    ap ones (sym e) ∙ counted c.args.bits 16
