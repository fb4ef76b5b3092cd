use Rattle.std.proofs.Common.{◌^◌, ◌<◌, ◌||◌, ap, ◌∙◌, arith}
use Rattle.std.proofs.lemmas.Nat.{one_shl, or_lt, pow_below}
use Rattle.small_set.specs.Members.{member}
use Rattle.small_set.proofs.Bits.{or_member, pow_member}
use Rattle.small_set.proofs.with.Goals as goal

pub returns : goal.returns
returns g c =
    let kinds = g.K.SmallKind in
    let k = c.args.k in
    let bits = c.args.bits in
    let low = g.met.K.SmallKind.below k in
    let few = g.met.K.SmallKind.few in
    let e = c.number.ensures in
    let fit : c.number.result < 16 = omega arith in
    rw (one_shl c.number.result 16 fit, e)
    record {
      each = λ j. or_member bits (2 ^ kinds.numbered k) j ∙ ap (λ b. b || member bits j) (pow_member (kinds.numbered k) j);
      within = λ h. or_lt kinds.size _ _ h (pow_below _ _ low);
    }
