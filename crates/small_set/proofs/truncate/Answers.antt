use Rattle.std.proofs.Common.{◌≡◌, ℕ, ◌^◌, ◌<◌, ◌&&◌, ltb, arith}
use Rattle.small_set.specs.Members.{member}
use Rattle.small_set.proofs.Bits.{keeps, low_part}
use Rattle.small_set.proofs.truncate.Goals as goal

pub returns : goal.returns
returns g c =
    let size = g.K.SmallKind.size in
    let r = c.intersection.result in
    let bits = c.args.bits in
    let each : (j : ℕ) → member r j ≡ (member bits j && ltb j size) =
    low_part r bits c.all.result size c.intersection.ensures.each c.all.ensures.each in
    let low : r < 2 ^ size = omega arith in
    record { each = each; within = low; kept = λ h. keeps size r bits low h each }
