-- One flag set or cleared: as members, and as bits.
use Rattle.std.proofs.Common.{◌≡◌, ℕ, ◌^◌, ◌<◌, not, ◌&&◌, ◌||◌, eqb, sym, ap, ◌∙◌, lt_of_le_of_lt, arith}
use lib.Bits.{and_le_l, bit_and, or_lt, xor_lt}
use Rattle.std.proofs.lemmas.Nat.{pow_below}
use Rattle.kinds.specs.Flags.{flag_number}
use Rattle.kinds.specs.declared.context.Context.{Context}
use Rattle.kinds.specs.declared.context.ContextFlag.{ContextFlag}
use Rattle.kinds.specs.declared.context.ContextFlag.TheVariants.{In, Yield, Await, Return, Decorator, DisallowConditionalTypes, Ambient, TopLevel, NewTarget}
use Rattle.small_set.proofs.Bits.{minus_member, or_member, pow_member, same_members}
use Rattle.small_set.specs.Members.{member}
use Rattle.guard.specs.Changes.{with_flag, without_flag}

flag_below : (f : ContextFlag) → flag_number f < 9
flag_below In = omega arith
flag_below Yield = omega arith
flag_below Await = omega arith
flag_below Return = omega arith
flag_below Decorator = omega arith
flag_below DisallowConditionalTypes = omega arith
flag_below Ambient = omega arith
flag_below TopLevel = omega arith
flag_below NewTarget = omega arith

pub set_bits : (f : ContextFlag) (k r : Context) → ((j : ℕ) → member r.bits j ≡ (eqb (flag_number f) j || member k.bits j)) → r.bits ≡ with_flag k.bits f
set_bits f k r each =
    let n = flag_number f in
    same_members 9 r.bits (with_flag k.bits f) r.ok (or_lt 9 k.bits (2 ^ n) k.ok (pow_below n 9 (flag_below f)))
    (λ j. each j ∙ sym (or_member k.bits (2 ^ n) j ∙ ap (λ b. b || member k.bits j) (pow_member n j)))

pub cleared_bits : (f : ContextFlag) (k r : Context) → ((j : ℕ) → member r.bits j ≡ (member k.bits j && not (eqb (flag_number f) j))) → r.bits ≡ without_flag k.bits f
cleared_bits f k r each =
    let n = flag_number f in
    same_members 9 r.bits (without_flag k.bits f) r.ok (xor_lt 9 k.bits (bit_and k.bits (2 ^ n)) k.ok (lt_of_le_of_lt (and_le_l k.bits (2 ^ n)) k.ok))
    (λ j. each j ∙ sym (minus_member k.bits (2 ^ n) j ∙ ap (λ b. member k.bits j && not b) (pow_member n j)))
