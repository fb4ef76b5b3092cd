-- What holds of the kept keywords, whatever was added: for the proofs of callers.
use Rattle.std.proofs.Common.{◌≡◌, ℕ, zero, suc, ◌<◌, ◌≤◌, true, false, not, ltb, List, [], ◌∷◌, length, get_or, arith}
use Rattle.std.specs.List.{list_all}
use Rattle.std.proofs.lemmas.Bool.{and_from, and_parts, lt-ltb, ltb-true, not-true, or_parts}
use Rattle.small_set.specs.Members.{member}
use Rattle.kinds.specs.Modifiers.{modifier_number}
use Rattle.kinds.specs.declared.modifier_kind.ModifierKind.{ModifierKind}
use Rattle.modifiers.specs.declared.modifier.Modifier.{Modifier}
use Rattle.modifiers.specs.declared.modifiers.Modifiers.{Modifiers}
use Rattle.modifiers.specs.Entries.{same_kind, keeps, without, added, above, fits, apart, ascending}
use Rattle.modifiers.specs.Lists.{entries}
use Rattle.modifiers.proofs.Kept.{all_left, all_one_more, few}
use Rattle.modifiers.proofs.Held.{all_nth}

-- each kind once
pub entries_apart : (m : Modifiers) → apart (entries m) ≡ true
unfolding entries
entries_apart m = m.once

-- each start above those before it
pub entries_rise : (m : Modifiers) → ascending (entries m) ≡ true
unfolding entries
entries_rise m = m.rising

-- each end a number of 32 bits
pub entries_fit : (m : Modifiers) → list_all fits (entries m) ≡ true
unfolding entries
entries_fit m = m.within

pub entries_few : (m : Modifiers) → length (entries m) ≤ 15
entries_few m = few (entries m) (entries_apart m)

-- the set holds the kept kinds
pub entries_kinds : (m : Modifiers) (k : ModifierKind) → member m.kinds.bits (modifier_number k) ≡ keeps k (entries m)
unfolding entries
entries_kinds m = m.same

-- ---- by places: of any list with each kind once, or with rising starts
not_kept : (k : ModifierKind) (ms : List Modifier) (i : ℕ) (d : Modifier) → i < length ms → keeps k ms ≡ false → same_kind (get_or ms i d).kind k ≡ false
not_kept k [] i d l h = let z : ⊥ = omega arith in absurd z
not_kept k (m ∷ ms) zero d l h = (or_parts (same_kind m.kind k) (keeps k ms) h).0
not_kept k (m ∷ ms) (suc i) d l h = not_kept k ms i d (omega arith) (or_parts (same_kind m.kind k) (keeps k ms) h).1

pub kinds_differ : (ms : List Modifier) → apart ms ≡ true → (i j : ℕ) (d : Modifier) → i < j → j < length ms → same_kind (get_or ms j d).kind (get_or ms i d).kind ≡ false
kinds_differ [] h i j d l r = let z : ⊥ = omega arith in absurd z
kinds_differ (m ∷ ms) h i zero d l r = let z : ⊥ = omega arith in absurd z
kinds_differ (m ∷ ms) h zero (suc j) d l r = not_kept m.kind ms j d (omega arith) (not-true (keeps m.kind ms) (and_parts (not (keeps m.kind ms)) (apart ms) h).0)
kinds_differ (m ∷ ms) h (suc i) (suc j) d l r = kinds_differ ms (and_parts (not (keeps m.kind ms)) (apart ms) h).1 i j d (omega arith) (omega arith)

pub starts_rise : (ms : List Modifier) → ascending ms ≡ true → (i j : ℕ) (d : Modifier) → i < j → j < length ms → (get_or ms i d).start < (get_or ms j d).start
starts_rise [] h i j d l r = let z : ⊥ = omega arith in absurd z
starts_rise (m ∷ ms) h i zero d l r = let z : ⊥ = omega arith in absurd z
starts_rise (m ∷ ms) h zero (suc j) d l r =
    ltb-true m.start (get_or ms j d).start
    (all_nth (λ n. ltb m.start n.start) ms j d (omega arith) (and_parts (list_all (λ n. ltb m.start n.start) ms) (ascending ms) h).0)
starts_rise (m ∷ ms) h (suc i) (suc j) d l r = starts_rise ms (and_parts (list_all (λ n. ltb m.start n.start) ms) (ascending ms) h).1 i j d (omega arith) (omega arith)

-- ---- what can follow, once more is kept
pub above_more : (a b : ℕ) (ms : List Modifier) → above a ms ≡ true → a ≤ b → above b ms ≡ true
above_more a b [] h l = h
above_more a b (m ∷ ms) h l =
    let hs = and_parts (ltb m.start a) (above a ms) h in
    let low = ltb-true m.start a hs.0 in
    and_from (ltb m.start b) (above b ms) (lt-ltb m.start b (omega arith)) (above_more a b ms hs.1 l)

pub above_added : (start : ℕ) (ms : List Modifier) (m : Modifier) → above start ms ≡ true → m.start < start → above start (added ms m) ≡ true
above_added start ms m h l =
    all_one_more (λ x. ltb x.start start) (without m.kind ms) m (all_left (λ x. ltb x.start start) m.kind ms h) (lt-ltb m.start start l)
