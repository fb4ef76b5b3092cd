use Rattle.std.proofs.Common.{◌^◌, ◌<◌, ap, ◌∙◌, arith}
use Rattle.std.proofs.lemmas.Nat.{one_shl}
use Rattle.small_set.proofs.Bits.{less_one}
use Rattle.small_set.proofs.without.Goals as goal

pub returns : goal.returns
returns g c =
    let kinds = g.K.SmallKind in
    let low = g.met.K.SmallKind.below c.args.k in
    let few = g.met.K.SmallKind.few in
    let e = c.number.ensures in
    let fit : c.number.result < 16 = omega arith in
    record {
      each = less_one c.difference.result c.args.bits _ _ c.difference.ensures.each (one_shl c.number.result 16 fit ∙ ap (λ n. 2 ^ n) e);
      within = c.difference.ensures.within kinds.size;
    }
