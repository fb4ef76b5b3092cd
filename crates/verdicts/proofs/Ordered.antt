-- The rules of the order, from its definition.
use Rattle.std.proofs.Common.{◌≡◌, ℕ, ◌<◌, Bool, true, false, cond, ◌&&◌, eqb, ltb, List, [], ◌∷◌, Some, None, filter, Option, sym, refl, ap, ◌∙◌, ap₂, ⊎_elim, arith}
use Rattle.std.specs.List.{list_all}
use Rattle.std.proofs.lemmas.Bool.{and_parts, and_from, and_left, and_right, or_cases, or_left, or_right, cases_Bool, not-true, not-false, eqb-true, eq-eqb, ltb-true, both_ways, true≢false}
use Rattle.small_set.specs.Members.{member, NoneAmong, Lowest}
use Rattle.kinds.specs.Modifiers.{modifier_number}
use Rattle.kinds.specs.declared.modifier_kind.ModifierKind.{ModifierKind}
use Rattle.verdicts.specs.declared.order.OrderVerdict.{OrderVerdict}
use Rattle.verdicts.specs.Verdicts.{accessibilities, every_kind, same_kind, any_of, among, forbids, is_accessibility, rule_of, rule_or_0, verdict_of}
use Rattle.rules.specs.Rules.{rule_number}
use Rattle.rules.specs.declared.Rule.{Rule}
use Rattle.rules.specs.declared.Rule.TheVariants.{AccessibilityAlreadySeen, AlreadySeen}
use Rattle.verdicts.specs.Orders.{silent, naming, naming_if, offenders, some_give, said_of, order_of, NoneForbidden, Gets, LowestForbidden, OrderRules, OrderStands}
use Rattle.kinds.proofs.Numbered.{numbers, same_kind_true}
use Rattle.verdicts.proofs.Pairs.{among_passes, any_from, any_some, both_accessibilities, repetition, forbidden_by, rule_given}

-- ---- what passes a test
kept_among : (p : ModifierKind → Bool) (ks : List ModifierKind) (k : ModifierKind) → among k ks ≡ true → p k ≡ true → among k (filter p ks) ≡ true
kept_among p [] k a e = a
kept_among p (x ∷ xs) k a e = ⊎_elim here (λ s. step (p x) (kept_among p xs k s e)) (or_cases (same_kind x k) (among k xs) a)
  where
    here : same_kind x k ≡ true → among k (cond (p x) (x ∷ filter p xs) (filter p xs)) ≡ true
    here s =
        ap (λ b. among k (cond b (x ∷ filter p xs) (filter p xs))) (ap p (same_kind_true x k s) ∙ e)
        ∙ or_left (same_kind x k) (among k (filter p xs)) s

    step : (b : Bool) → among k (filter p xs) ≡ true → among k (cond b (x ∷ filter p xs) (filter p xs)) ≡ true
    step true h = or_right (same_kind x k) (among k (filter p xs)) h
    step false h = h

kept_pass : (p : ModifierKind → Bool) (ks : List ModifierKind) → list_all p (filter p ks) ≡ true
kept_pass p [] = refl
kept_pass p (x ∷ xs) = step (p x) refl (kept_pass p xs)
  where
    step : (b : Bool) → p x ≡ b → list_all p (filter p xs) ≡ true → list_all p (cond b (x ∷ filter p xs) (filter p xs)) ≡ true
    step true e h = and_from (p x) (list_all p (filter p xs)) e h
    step false e h = h

kept_none : (p : ModifierKind → Bool) → ((k : ModifierKind) → p k ≡ false) → (ks : List ModifierKind) → filter p ks ≡ []
kept_none p h [] = refl
kept_none p h (x ∷ xs) = ap (λ b. cond b (x ∷ filter p xs) (filter p xs)) (h x) ∙ kept_none p h xs

abbrev rising : List ModifierKind → Bool
rising [] = true
rising (x ∷ xs) = list_all (λ y. ltb (modifier_number x) (modifier_number y)) xs && rising xs

-- of kinds in the order of their numbers the lowest that passes is kept first
kept_first : (p : ModifierKind → Bool) (ks : List ModifierKind) → rising ks ≡ true → (k : ModifierKind) → among k ks ≡ true → p k ≡ true → ((j : ModifierKind) → modifier_number j < modifier_number k → p j ≡ false) → (rest : List ModifierKind) × (filter p ks ≡ k ∷ rest)
kept_first p [] r k a e low = absurd (both_ways false refl a)
kept_first p (x ∷ xs) r k a e low = ⊎_elim here (λ s. there s (kept_first p xs parts.1 k s e low)) (or_cases (same_kind x k) (among k xs) a)
  where
    parts : (list_all (λ y. ltb (modifier_number x) (modifier_number y)) xs ≡ true) × (rising xs ≡ true)
    parts = and_parts (list_all (λ y. ltb (modifier_number x) (modifier_number y)) xs) (rising xs) r

    here : same_kind x k ≡ true → (rest : List ModifierKind) × (filter p (x ∷ xs) ≡ k ∷ rest)
    here s =
        let q = same_kind_true x k s in
        (filter p xs, ap (λ b. cond b (x ∷ filter p xs) (filter p xs)) (ap p q ∙ e) ∙ ap (λ y. y ∷ filter p xs) q)

    there : among k xs ≡ true → (rest : List ModifierKind) × (filter p xs ≡ k ∷ rest) → (rest : List ModifierKind) × (filter p (x ∷ xs) ≡ k ∷ rest)
    there s m =
        let up = ltb-true (modifier_number x) (modifier_number k) (among_passes (λ y. ltb (modifier_number x) (modifier_number y)) xs k parts.0 s) in
        (m.0, ap (λ b. cond b (x ∷ filter p xs) (filter p xs)) (low x up) ∙ m.1)

-- ---- what is said where just some are forbidden
abbrev chosen : Bool → Bool → Option OrderVerdict → Option OrderVerdict
chosen a b v = cond a (Some (silent AccessibilityAlreadySeen)) (cond b (Some (silent AlreadySeen)) v)

some_said : (later x : ModifierKind) (xs : List ModifierKind) → forbids later x ≡ true → said_of later (x ∷ xs) ≡ None → ⊥
some_said later x xs h e =
    let g = rule_given later x h in
    by (some_give 1 later (x ∷ xs)) (some_give 2 later (x ∷ xs)) g.0
    (sym (ap (λ o. chosen (some_give 1 later (x ∷ xs)) (some_give 2 later (x ∷ xs)) (naming_if o x)) g.1) ∙ e)
  where
    told : Option OrderVerdict → Bool
    told None = false
    told (Some v) = true

    by : (a b : Bool) (r : Rule) → chosen a b (Some (naming r x)) ≡ None → ⊥
    by true b r f = true≢false (ap told f)
    by false true r f = true≢false (ap told f)
    by false false r f = true≢false (ap told f)

said_second : (later : ModifierKind) (ks : List ModifierKind) (k : ModifierKind) → among k ks ≡ true → some_give 1 later ks ≡ true → said_of later ks ≡ Some (silent AccessibilityAlreadySeen)
said_second later [] k a g = absurd (both_ways false refl a)
said_second later (x ∷ xs) k a g = ap (λ b. chosen b (some_give 2 later (x ∷ xs)) (naming_if (rule_of later x) x)) g

said_again : (later : ModifierKind) (ks : List ModifierKind) (k : ModifierKind) → among k ks ≡ true → some_give 1 later ks ≡ false → some_give 2 later ks ≡ true → said_of later ks ≡ Some (silent AlreadySeen)
said_again later [] k a f g = absurd (both_ways false refl a)
said_again later (x ∷ xs) k a f g = ap₂ (λ b c. chosen b c (naming_if (rule_of later x) x)) f g

said_lowest : (later k : ModifierKind) (ks : List ModifierKind) → some_give 1 later (k ∷ ks) ≡ false → some_give 2 later (k ∷ ks) ≡ false → said_of later (k ∷ ks) ≡ naming_if (rule_of later k) k
said_lowest later k ks f g = ap₂ (λ b c. chosen b c (naming_if (rule_of later k) k)) f g

-- ---- the rules
module _ (kept : ModifierKind → Bool) (later : ModifierKind) where
  abbrev offends : ModifierKind → Bool
  offends k = kept k && forbids later k

  given_forbidden : (n : ℕ) → eqb n 0 ≡ false → (k : ModifierKind) → verdict_of later k ≡ n → forbids later k ≡ true
  given_forbidden n z k e = not-false (forbids later k) (sym (forbidden_by later k) ∙ ap (λ m. eqb m 0) e ∙ z)

  among_offenders : (k : ModifierKind) → kept k ≡ true → forbids later k ≡ true → among k (offenders kept later) ≡ true
  among_offenders k a b = kept_among offends every_kind k (numbers k).2 (and_from (kept k) (forbids later k) a b)

  gives : (n : ℕ) → eqb n 0 ≡ false → Gets n kept later → some_give n later (offenders kept later) ≡ true
  gives n z g =
      any_from (λ k. eqb (verdict_of later k) n) (offenders kept later) g.0
      (among_offenders g.0 g.1 (given_forbidden n z g.0 g.2)) (eq-eqb (verdict_of later g.0) n g.2)

  given : (n : ℕ) → some_give n later (offenders kept later) ≡ true → Gets n kept later
  given n h =
      let m = any_some (λ k. eqb (verdict_of later k) n) (offenders kept later) h in
      let o = among_passes offends (offenders kept later) m.0 (kept_pass offends every_kind) m.1 in
      (m.0, (and_parts (kept m.0) (forbids later m.0) o).0, eqb-true (verdict_of later m.0) n m.2)

  given_none : (n : ℕ) → (Gets n kept later → ⊥) → some_give n later (offenders kept later) ≡ false
  given_none n f =
      ⊎_elim (λ t. absurd (f (given n t))) (λ e. e) (cases_Bool (some_give n later (offenders kept later)))

  -- a kind that gets 2 is no accessibility, and so gets no 1
  not_both : Gets 2 kept later → Gets 1 kept later → ⊥
  not_both g f =
      both_ways (is_accessibility later) (not-true (is_accessibility later) (repetition later g.0 g.2).1)
      (both_accessibilities later f.0 f.2).0

  -- an accessibility is asked for 1, and the kind itself for 2
  pub second_known : any_of (λ k. kept k && eqb (verdict_of later k) 1) accessibilities ≡ true → Gets 1 kept later
  second_known h =
      let m = any_some (λ k. kept k && eqb (verdict_of later k) 1) accessibilities h in
      let ps = and_parts (kept m.0) (eqb (verdict_of later m.0) 1) m.2 in
      (m.0, ps.0, eqb-true (verdict_of later m.0) 1 ps.1)

  pub second_none : any_of (λ k. kept k && eqb (verdict_of later k) 1) accessibilities ≡ false → Gets 1 kept later → ⊥
  second_none h g =
      both_ways (any_of (λ k. kept k && eqb (verdict_of later k) 1) accessibilities) h
      (any_from (λ k. kept k && eqb (verdict_of later k) 1) accessibilities g.0 (both_accessibilities later g.0 g.2).1
      (and_from (kept g.0) (eqb (verdict_of later g.0) 1) g.1 (eq-eqb (verdict_of later g.0) 1 g.2)))

  pub again_known : (kept later && eqb (verdict_of later later) 2) ≡ true → Gets 2 kept later
  again_known h =
      let ps = and_parts (kept later) (eqb (verdict_of later later) 2) h in
      (later, ps.0, eqb-true (verdict_of later later) 2 ps.1)

  pub again_none : (kept later && eqb (verdict_of later later) 2) ≡ false → Gets 2 kept later → ⊥
  again_none h g =
      let q = same_kind_true later g.0 (repetition later g.0 g.2).0 in
      both_ways (kept later && eqb (verdict_of later later) 2) h
      (and_from (kept later) (eqb (verdict_of later later) 2) (ap kept q ∙ g.1) (eq-eqb (verdict_of later later) 2 (ap (verdict_of later) q ∙ g.2)))

  never_none : (ks : List ModifierKind) (k : ModifierKind) → list_all offends ks ≡ true → among k ks ≡ true → said_of later ks ≡ None → ⊥
  never_none [] k h a e = both_ways false refl a
  never_none (x ∷ xs) k h a e =
      some_said later x xs (and_parts (kept x) (forbids later x) (and_parts (offends x) (list_all offends xs) h).0).1 e

  number : (k : ModifierKind) (r : Rule) → rule_of later k ≡ Some r → rule_number r ≡ verdict_of later k
  unfolding verdict_of
  number k r e = sym (ap rule_or_0 e)

  -- the lowest of the forbidden kinds decides, where none gets 1 or 2
  pub lowest_said : (k : ModifierKind) → LowestForbidden kept later k → (Gets 1 kept later → ⊥) → (Gets 2 kept later → ⊥) → order_of kept later ≡ naming_if (rule_of later k) k
  unfolding order_of
  lowest_said k h f g =
      let m = kept_first offends every_kind refl k (numbers k).2 (and_from (kept k) (forbids later k) h.0 h.1)
      (λ j l. ⊎_elim (λ t. and_right (kept j) (forbids later j) (h.2 j l t)) (and_left (kept j) (forbids later j)) (cases_Bool (kept j))) in
      ap (said_of later) m.1
      ∙ said_lowest later k m.0 (ap (some_give 1 later) (sym m.1) ∙ given_none 1 f) (ap (some_give 2 later) (sym m.1) ∙ given_none 2 g)

  pub order_rules : OrderRules kept later
  unfolding order_of
  order_rules =
      record {
        nothing = λ h.
            ap (said_of later)
            (kept_none offends (λ k. ⊎_elim (λ t. and_right (kept k) (forbids later k) (h k t)) (and_left (kept k) (forbids later k)) (cases_Bool (kept k)))
            every_kind);
        only_then = λ e k t.
            ⊎_elim (λ f. absurd (never_none (offenders kept later) k (kept_pass offends every_kind) (among_offenders k t f) e)) (λ f. f)
            (cases_Bool (forbids later k));
        second = λ g.
            said_second later (offenders kept later) g.0
            (among_offenders g.0 g.1 (given_forbidden 1 refl g.0 g.2)) (gives 1 refl g);
        again = λ g.
            said_again later (offenders kept later) g.0
            (among_offenders g.0 g.1 (given_forbidden 2 refl g.0 g.2))
            (given_none 1 (not_both g)) (gives 2 refl g);
        lowest = λ k h f g. let r = rule_given later k h.1 in (r.0, number k r.0 r.1, lowest_said k h f g ∙ ap (λ o. naming_if o k) r.1);
      }

pub order_stands_lem : OrderStands
order_stands_lem kept later = order_rules kept later

-- the same kept kinds, the same order
pub order_alike : (f g : ModifierKind → Bool) → ((k : ModifierKind) → f k ≡ g k) → (later : ModifierKind) → order_of f later ≡ order_of g later
order_alike f g h later i = order_of (λ k. h k i) later

-- ---- the kept kinds as bits, and what they share with a row
module _ (bits row both : ℕ) (later : ModifierKind) (has-row : (k : ModifierKind) → member row (modifier_number k) ≡ forbids later k) (shared : (j : ℕ) → member both j ≡ (member bits j && member row j)) where
  abbrev kept_in : ModifierKind → Bool
  kept_in k = member bits (modifier_number k)

  in_both : (k : ModifierKind) → member both (modifier_number k) ≡ (kept_in k && forbids later k)
  in_both k = shared (modifier_number k) ∙ ap (λ b. kept_in k && b) (has-row k)

  absent : (k : ModifierKind) → member both (modifier_number k) ≡ false → kept_in k ≡ true → forbids later k ≡ false
  absent k f t = sym (ap (λ b. b && forbids later k) t) ∙ sym (in_both k) ∙ f

  pub none_among : NoneAmong both 0 15 → NoneForbidden kept_in later
  none_among h k t = absent k (h (modifier_number k) (omega arith) (numbers k).1) t

  pub lowest_among : (k : ModifierKind) → Lowest both 0 (modifier_number k) → LowestForbidden kept_in later k
  lowest_among k h =
      let ps = and_parts (kept_in k) (forbids later k) (sym (in_both k) ∙ h.1) in
      (ps.0, ps.1, λ j l t. absent j (h.2 (modifier_number j) (omega arith) l) t)
