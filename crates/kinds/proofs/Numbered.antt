-- Kinds and their numbers, one by one.
use Rattle.std.proofs.Common.{◌≡◌, ℕ, ◌^◌, ◌<◌, Bool, true, sym, refl, ap, ◌∙◌, arith, lit<}
use Rattle.std.proofs.lemmas.Bool.{eqb-true}
use Rattle.std.proofs.lemmas.List.FromFn.{get_or-map-range_with_len, get_or-range_with_len}
use Rattle.small_set.specs.Members.{member}
use Rattle.small_set.proofs.Bits.{member_below}
use Rattle.kinds.specs.Modifiers.{among, every_kind, kind_at, modifier_number, same_kind}
use Rattle.kinds.specs.declared.modifier_kind.ModifierKind.{ModifierKind}
use Rattle.kinds.specs.declared.modifier_kind.ModifierKind.TheVariants.{Declare, Private, Protected, Public, Static, Readonly, Abstract, Override, Async, Const, In, Out, Default, Accessor, Export}

pub numbers : (k : ModifierKind) → (kind_at (modifier_number k) ≡ k) × (modifier_number k < 15) × (among k every_kind ≡ true)
numbers Declare = (refl, lit< tt, refl)
numbers Private = (refl, lit< tt, refl)
numbers Protected = (refl, lit< tt, refl)
numbers Public = (refl, lit< tt, refl)
numbers Static = (refl, lit< tt, refl)
numbers Readonly = (refl, lit< tt, refl)
numbers Abstract = (refl, lit< tt, refl)
numbers Override = (refl, lit< tt, refl)
numbers Async = (refl, lit< tt, refl)
numbers Const = (refl, lit< tt, refl)
numbers In = (refl, lit< tt, refl)
numbers Out = (refl, lit< tt, refl)
numbers Default = (refl, lit< tt, refl)
numbers Accessor = (refl, lit< tt, refl)
numbers Export = (refl, lit< tt, refl)

pub same_kind_true : (j k : ModifierKind) → same_kind j k ≡ true → j ≡ k
same_kind_true j k e = sym (numbers j).0 ∙ ap kind_at (eqb-true (modifier_number j) (modifier_number k) e) ∙ (numbers k).0

-- the numbers of the kinds at 0, 1, .. 14 are those, which the checker computes
pub number_at : (n : ℕ) → n < 15 → modifier_number (kind_at n) ≡ n
number_at n h = sym (get_or-map-range_with_len (λ i. modifier_number (kind_at i)) 0 15 n n 0 h (omega arith)) ∙ get_or-range_with_len 0 15 n 0 h ∙ omega arith

-- a kind for a member of a set of modifiers, and what another set answers of it
pub modifier_in : (bits other n : ℕ) (answer : Bool) → bits < 2 ^ 15 → member bits n ≡ true → member other n ≡ answer → (k : ModifierKind) × (member bits (modifier_number k) ≡ true) × (member other (modifier_number k) ≡ answer)
modifier_in bits other n answer h t e =
    let same = number_at n (member_below 15 bits n h t) in
    (kind_at n, ap (member bits) same ∙ t, ap (member other) same ∙ e)
