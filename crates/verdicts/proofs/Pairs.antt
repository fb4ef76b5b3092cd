-- Every kind, one by one: a test that the checker computes over all kinds holds of each.
use Rattle.std.proofs.Common.{◌≡◌, ℕ, ◌^◌, ◌<◌, Bool, true, false, cond, not, ◌&&◌, eqb, ltb, List, [], ◌∷◌, Some, None, Option, Decides, sym, refl, ap, ◌∙◌, subst, ⊎_elim}
use Rattle.std.specs.List.{list_all}
use Rattle.std.proofs.lemmas.Bool.Decides.{same_from_decides}
use Rattle.std.proofs.lemmas.Bool.{and_from, and_parts, or_cases, or_left, or_right, eqb-true, eq-eqb, ltb-true, both_ways}
use Rattle.small_set.specs.Members.{member}
use Rattle.kinds.specs.Modifiers.{modifier_number}
use Rattle.kinds.proofs.Numbered.{numbers, same_kind_true}
use Rattle.kinds.specs.declared.modifier_kind.ModifierKind.{ModifierKind}
use Rattle.kinds.specs.declared.modifier_kind.ModifierKind.TheVariants.{Declare, Override}
use Rattle.rules.specs.Rules.{rule_number}
use Rattle.rules.specs.declared.Rule.{Rule}
use Rattle.rules.specs.declared.Rule.TheVariants.{AccessibilityAlreadySeen, AlreadySeen, WithOtherModifier, InAmbientContext, MustPrecede}
use Rattle.verdicts.specs.Verdicts.{every_kind, same_kind, any_of, among, forbidden_before, packed, excludes, forbids, is_accessibility, rule_at, rule_of, rule_or_0, verdict_of}

pub among_passes : (p : ModifierKind → Bool) (ks : List ModifierKind) (k : ModifierKind) → list_all p ks ≡ true → among k ks ≡ true → p k ≡ true
among_passes p [] k h a = absurd (both_ways false refl a)
among_passes p (x ∷ xs) k h a =
    let hs = and_parts (p x) (list_all p xs) h in
    ⊎_elim (λ e. ap p (sym (same_kind_true x k e)) ∙ hs.0) (λ e. among_passes p xs k hs.1 e) (or_cases (same_kind x k) (among k xs) a)

-- what a test finds of all kinds holds of each, and so of each pair
pub each_kind : (p : ModifierKind → Bool) → list_all p every_kind ≡ true → (k : ModifierKind) → p k ≡ true
each_kind p h k = among_passes p every_kind k h (numbers k).2

pub each_pair : (p : ModifierKind → ModifierKind → Bool) → list_all (λ j. list_all (p j) every_kind) every_kind ≡ true → (j k : ModifierKind) → p j k ≡ true
each_pair p h j k = each_kind (p j) (each_kind (λ i. list_all (p i) every_kind) h j) k

pub any_from : (p : ModifierKind → Bool) (ks : List ModifierKind) (k : ModifierKind) → among k ks ≡ true → p k ≡ true → any_of p ks ≡ true
any_from p [] k a e = a
any_from p (x ∷ xs) k a e =
    ⊎_elim (λ s. or_left (p x) (any_of p xs) (ap p (same_kind_true x k s) ∙ e)) (λ s. or_right (p x) (any_of p xs) (any_from p xs k s e))
    (or_cases (same_kind x k) (among k xs) a)

pub any_some : (p : ModifierKind → Bool) (ks : List ModifierKind) → any_of p ks ≡ true → (k : ModifierKind) × (among k ks ≡ true) × (p k ≡ true)
any_some p [] h = absurd (both_ways false refl h)
any_some p (x ∷ xs) h =
    ⊎_elim (λ e. (x, or_left (same_kind x x) (among x xs) (eq-eqb (modifier_number x) (modifier_number x) refl), e))
    (λ e. let m = any_some p xs e in (m.0, or_right (same_kind x m.0) (among m.0 xs) m.1, m.2))
    (or_cases (p x) (any_of p xs) h)

-- ---- the rows
abbrev pub agree : Bool → Bool → Bool
agree a b = cond a b (not b)

pub agree_same : (a b : Bool) → agree a b ≡ true → a ≡ b
agree_same true true e = refl
agree_same true false e = sym e
agree_same false true e = e
agree_same false false e = refl

row_fits : (later : ModifierKind) → ltb (packed (forbidden_before later)) (2 ^ 15) ≡ true
row_fits = each_kind (λ later. ltb (packed (forbidden_before later)) (2 ^ 15)) refl

pub row_below : (later : ModifierKind) → packed (forbidden_before later) < 2 ^ 15
row_below later = ltb-true (packed (forbidden_before later)) (2 ^ 15) (row_fits later)

pub row_members : (later k : ModifierKind) → member (packed (forbidden_before later)) (modifier_number k) ≡ forbids later k
unfolding member forbids
row_members later k =
    agree_same (member (packed (forbidden_before later)) (modifier_number k)) (forbids later k)
    (each_pair (λ j i. agree (member (packed (forbidden_before j)) (modifier_number i)) (forbids j i)) refl later k)

-- ---- the verdicts: what gets none is not forbidden, 1 is between accessibilities, and 2 of another kind with itself
abbrev fair : ModifierKind → ModifierKind → Bool
fair j k =
    cond (eqb (verdict_of j k) 1) (is_accessibility j && is_accessibility k)
    (cond (eqb (verdict_of j k) 2) (same_kind j k && not (is_accessibility j)) true)

abbrev strict : ModifierKind → ModifierKind → Bool
strict j k = agree (eqb (verdict_of j k) 0) (not (forbids j k))

all_fair : (j k : ModifierKind) → fair j k ≡ true
unfolding verdict_of rule_of forbids
all_fair = each_pair fair refl

all_strict : (j k : ModifierKind) → strict j k ≡ true
unfolding verdict_of rule_of forbids
all_strict = each_pair strict refl

pub both_accessibilities : (j k : ModifierKind) → verdict_of j k ≡ 1 → (is_accessibility j ≡ true) × (is_accessibility k ≡ true)
both_accessibilities j k e =
    and_parts (is_accessibility j) (is_accessibility k)
    (subst (λ (n : ℕ). cond (eqb n 1) (is_accessibility j && is_accessibility k) (cond (eqb n 2) (same_kind j k && not (is_accessibility j)) true) ≡ true) e (all_fair j k))

pub repetition : (j k : ModifierKind) → verdict_of j k ≡ 2 → (same_kind j k ≡ true) × (not (is_accessibility j) ≡ true)
repetition j k e =
    and_parts (same_kind j k) (not (is_accessibility j))
    (subst (λ (n : ℕ). cond (eqb n 1) (is_accessibility j && is_accessibility k) (cond (eqb n 2) (same_kind j k && not (is_accessibility j)) true) ≡ true) e (all_fair j k))

pub forbidden_by : (j k : ModifierKind) → eqb (verdict_of j k) 0 ≡ not (forbids j k)
forbidden_by j k = agree_same (eqb (verdict_of j k) 0) (not (forbids j k)) (all_strict j k)

-- ---- the rules: what a number of the table stands for
abbrev chosen : Bool → Bool → Bool → Bool → Bool → Option Rule
chosen a b c d e =
    cond a None
    (cond b (Some AccessibilityAlreadySeen)
    (cond c (Some AlreadySeen) (cond d (Some WithOtherModifier) (cond e (Some InAmbientContext) (Some MustPrecede)))))

chosen_at : (a b c d e : Bool) → chosen a b c d e ≡ rule_at (rule_or_0 (chosen a b c d e))
chosen_at true b c d e = refl
chosen_at false true c d e = refl
chosen_at false false true d e = refl
chosen_at false false false true e = refl
chosen_at false false false false true = refl
chosen_at false false false false false = refl

pub rule_known : (j k : ModifierKind) → rule_of j k ≡ rule_at (verdict_of j k)
unfolding verdict_of rule_of
rule_known j k =
    chosen_at (not (forbids j k)) (is_accessibility j && is_accessibility k) (same_kind j k) (excludes j k) (same_kind j Declare && same_kind k Override)

-- what is forbidden gets a rule
pub rule_given : (j k : ModifierKind) → forbids j k ≡ true → (r : Rule) × (rule_of j k ≡ Some r)
unfolding verdict_of
rule_given j k h = by (rule_of j k) refl
  where
    by : (o : Option Rule) → rule_of j k ≡ o → (r : Rule) × (rule_of j k ≡ Some r)
    by None e = absurd (both_ways (not (forbids j k)) (ap not h) (sym (forbidden_by j k) ∙ ap (λ o. eqb (rule_or_0 o) 0) e))
    by (Some r) e = (r, e)

-- a rule that is asked for, by its number
pub asked : (n : ℕ) (r : Rule) → rule_at n ≡ Some r → rule_number r ≡ n → (b m : Bool) (j k : ModifierKind) → Decides b ((m ≡ true) × (rule_of j k ≡ Some r)) → b ≡ (m && eqb (verdict_of j k) n)
unfolding verdict_of
asked n r here numbered b m j k d =
    same_from_decides b (m && eqb (verdict_of j k) n) d (
      λ h. let p = and_parts m (eqb (verdict_of j k) n) h in (p.0, rule_known j k ∙ ap rule_at (eqb-true (verdict_of j k) n p.1) ∙ here),
      λ p. and_from m (eqb (verdict_of j k) n) p.0 (eq-eqb (verdict_of j k) n (ap rule_or_0 p.1 ∙ numbered)),
    )
