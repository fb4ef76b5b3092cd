-- One less than the power of the size: no more than sixteen bits, and just the numbers below the size.
use Rattle.std.proofs.Common.{◌≡◌, ◌*◌, ◌%◌, ◌^◌, ◌<◌, ◌≤◌, arith, pow_pos, pow_mono}
use Rattle.std.proofs.lemmas.Nat.{one_shl}
use Rattle.small_set.proofs.Bits.{mask_member}
use Rattle.small_set.proofs.all.Goals as goal

pub overflow_cast-result-2 : goal.overflow_cast-result-2
overflow_cast-result-2 g c =
    let few = g.met.K.SmallKind.few in
    let n = c.how_many.result in
    let e = c.how_many.ensures in
    let low : n ≤ 16 = omega arith in
    let pow : 2 ^ n ≤ 2 ^ 16 = pow_mono low in
    let one : (1 * 2 ^ n) % 2 ^ 32 ≡ 2 ^ n = one_shl n 32 (omega arith) in
    record { fits = omega arith }

pub returns : goal.returns
returns g c =
    let few = g.met.K.SmallKind.few in
    let n = c.how_many.result in
    let e = c.how_many.ensures in
    let p = pow_pos g.K.SmallKind.size in
    let fit : n < 32 = omega arith in
    rw (one_shl n 32 fit, e)
    record { each = mask_member g.K.SmallKind.size; within = omega arith }
