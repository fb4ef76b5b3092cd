-- Lists of keywords: what a keyword more does to them.
use Rattle.std.proofs.Common.{◌≡◌, ℕ, suc, ◌<◌, ◌≤◌, Bool, true, false, cond, not, ◌&&◌, ◌||◌, eqb, ltb, List, [], ◌∷◌, ◌++◌, length, sym, refl, ap, ◌∙◌, ⊎_elim, arith, length-append}
use Rattle.std.specs.List.{list_all}
use Rattle.std.proofs.lemmas.Bool.{and_parts, and_from, or_left, cases_Bool, not-true, not_from_false, eq-eqb, ltb-true, both_ways}
use Rattle.std.proofs.lemmas.Bool.Decides.{nat_tests}
use Rattle.kinds.specs.Modifiers.{among, modifier_number}
use Rattle.kinds.specs.declared.modifier_kind.ModifierKind.{ModifierKind}
use Rattle.modifiers.specs.declared.modifier.Modifier.{Modifier}
use Rattle.kinds.proofs.Numbered.{numbers}
use Rattle.modifiers.specs.Entries.{same_kind, keeps, without, added, above, apart, ascending, every_kind}

-- ---- a test that all entries pass
pub all_left : (p : Modifier → Bool) (k : ModifierKind) (ms : List Modifier) → list_all p ms ≡ true → list_all p (without k ms) ≡ true
all_left p k [] h = h
all_left p k (m ∷ ms) h = step (not (same_kind m.kind k)) (and_parts (p m) (list_all p ms) h).0 (all_left p k ms (and_parts (p m) (list_all p ms) h).1)
  where
    step : (b : Bool) → p m ≡ true → list_all p (without k ms) ≡ true → list_all p (cond b (m ∷ without k ms) (without k ms)) ≡ true
    step true e ih = and_from (p m) (list_all p (without k ms)) e ih
    step false e ih = ih

pub all_one_more : {X : Type 0} (p : X → Bool) (ms : List X) (m : X) → list_all p ms ≡ true → p m ≡ true → list_all p (ms ++ (m ∷ [])) ≡ true
all_one_more p [] m h e = and_from (p m) true e refl
all_one_more p (x ∷ ms) m h e =
    let hs = and_parts (p x) (list_all p ms) h in
    and_from (p x) (list_all p (ms ++ (m ∷ []))) hs.0 (all_one_more p ms m hs.1 e)

-- ---- which kinds are kept
keeps_push : (k : ModifierKind) (ms : List Modifier) (m : Modifier) → keeps k (ms ++ (m ∷ [])) ≡ (same_kind m.kind k || keeps k ms)
keeps_push k [] m = refl
keeps_push k (x ∷ ms) m = ap (λ b. same_kind x.kind k || b) (keeps_push k ms m) ∙ swap (same_kind x.kind k) (same_kind m.kind k) (keeps k ms)
  where
    swap : (a b c : Bool) → (a || (b || c)) ≡ (b || (a || c))
    swap true true c = refl
    swap true false c = refl
    swap false b c = refl

keeps_left : (k j : ModifierKind) (ms : List Modifier) → (same_kind j k || keeps k (without j ms)) ≡ (same_kind j k || keeps k ms)
keeps_left k j [] = refl
keeps_left k j (m ∷ ms) = step (same_kind m.kind j) refl (keeps_left k j ms)
  where
    step : (b : Bool) → same_kind m.kind j ≡ b → (same_kind j k || keeps k (without j ms)) ≡ (same_kind j k || keeps k ms) → (same_kind j k || keeps k (cond (not b) (m ∷ without j ms) (without j ms))) ≡ (same_kind j k || (same_kind m.kind k || keeps k ms))
    step true e ih = grind (arith, nat_tests)
    step false e ih = grind (arith, nat_tests)

pub keeps_added : (k : ModifierKind) (ms : List Modifier) (m : Modifier) → keeps k (added ms m) ≡ (same_kind m.kind k || keeps k ms)
keeps_added k ms m = keeps_push k (without m.kind ms) m ∙ keeps_left k m.kind ms

keeps_itself : (k : ModifierKind) (ms : List Modifier) → keeps k (without k ms) ≡ false
keeps_itself k [] = refl
keeps_itself k (m ∷ ms) = step (same_kind m.kind k) refl (keeps_itself k ms)
  where
    step : (b : Bool) → same_kind m.kind k ≡ b → keeps k (without k ms) ≡ false → keeps k (cond (not b) (m ∷ without k ms) (without k ms)) ≡ false
    step true e ih = ih
    step false e ih = ap (λ b. b || keeps k (without k ms)) e ∙ ih

keeps_less : (k j : ModifierKind) (ms : List Modifier) → keeps k ms ≡ false → keeps k (without j ms) ≡ false
keeps_less k j [] h = h
keeps_less k j (m ∷ ms) h = step (not (same_kind m.kind j)) (keeps_less k j ms)
  where
    step : (b : Bool) → (keeps k ms ≡ false → keeps k (without j ms) ≡ false) → keeps k (cond b (m ∷ without j ms) (without j ms)) ≡ false
    step true ih = grind (arith, nat_tests)
    step false ih = grind (arith, nat_tests)

-- ---- each kind once
apart_left : (k : ModifierKind) (ms : List Modifier) → apart ms ≡ true → apart (without k ms) ≡ true
apart_left k [] h = h
apart_left k (m ∷ ms) h = step (not (same_kind m.kind k)) (and_parts (not (keeps m.kind ms)) (apart ms) h).0 (apart_left k ms (and_parts (not (keeps m.kind ms)) (apart ms) h).1)
  where
    step : (b : Bool) → not (keeps m.kind ms) ≡ true → apart (without k ms) ≡ true → apart (cond b (m ∷ without k ms) (without k ms)) ≡ true
    step true e ih =
        and_from (not (keeps m.kind (without k ms))) (apart (without k ms))
        (not_from_false (keeps m.kind (without k ms)) (keeps_less m.kind k ms (not-true (keeps m.kind ms) e))) ih
    step false e ih = ih

apart_push : (ms : List Modifier) (m : Modifier) → apart ms ≡ true → keeps m.kind ms ≡ false → apart (ms ++ (m ∷ [])) ≡ true
apart_push [] m h e = refl
apart_push (x ∷ ms) m h e =
    let hs = and_parts (not (keeps x.kind ms)) (apart ms) h in
    and_from (not (keeps x.kind (ms ++ (m ∷ [])))) (apart (ms ++ (m ∷ []))) (still (keeps_push x.kind ms m) hs.0) (apart_push ms m hs.1 (grind (arith, nat_tests)))
  where
    still : keeps x.kind (ms ++ (m ∷ [])) ≡ (same_kind m.kind x.kind || keeps x.kind ms) → not (keeps x.kind ms) ≡ true → not (keeps x.kind (ms ++ (m ∷ []))) ≡ true
    still p q = grind (arith, nat_tests)

pub apart_added : (ms : List Modifier) (m : Modifier) → apart ms ≡ true → apart (added ms m) ≡ true
apart_added ms m h = apart_push (without m.kind ms) m (apart_left m.kind ms h) (keeps_itself m.kind ms)

-- ---- so they are at most fifteen
left_alone : (k : ModifierKind) (ms : List Modifier) → keeps k ms ≡ false → without k ms ≡ ms
left_alone k [] h = refl
left_alone k (m ∷ ms) h = step (same_kind m.kind k) refl (left_alone k ms)
  where
    step : (b : Bool) → same_kind m.kind k ≡ b → (keeps k ms ≡ false → without k ms ≡ ms) → cond (not b) (m ∷ without k ms) (without k ms) ≡ m ∷ ms
    step true e ih = absurd (both_ways (keeps k (m ∷ ms)) h (or_left (same_kind m.kind k) (keeps k ms) e))
    step false e ih = ap (λ l. m ∷ l) (ih (ap (λ b. b || keeps k ms) (sym e) ∙ h))

one_less : (k : ModifierKind) (ms : List Modifier) → apart ms ≡ true → length ms ≤ suc (length (without k ms))
one_less k [] h = omega arith
one_less k (m ∷ ms) h = step (same_kind m.kind k) refl (and_parts (not (keeps m.kind ms)) (apart ms) h).0 (one_less k ms (and_parts (not (keeps m.kind ms)) (apart ms) h).1)
  where
    same : eqb (modifier_number m.kind) (modifier_number k) ≡ true → (xs : List Modifier) → keeps m.kind xs ≡ keeps k xs
    same e [] = refl
    same e (x ∷ xs) = let ih = same e xs in grind (arith, nat_tests)

    step : (b : Bool) → same_kind m.kind k ≡ b → not (keeps m.kind ms) ≡ true → length ms ≤ suc (length (without k ms)) → suc (length ms) ≤ suc (length (cond (not b) (m ∷ without k ms) (without k ms)))
    step true e f ih = let q = ap length (left_alone k ms (sym (same e ms) ∙ not-true (keeps m.kind ms) f)) in omega arith
    step false e f ih = omega arith

few_of : (row : List ModifierKind) (ms : List Modifier) → apart ms ≡ true → ((k : ModifierKind) → keeps k ms ≡ true → among k row ≡ true) → length ms ≤ length row
few_of [] [] h f = omega arith
few_of [] (m ∷ ms) h f = absurd (both_ways false refl (f m.kind (or_left (same_kind m.kind m.kind) (keeps m.kind ms) (eq-eqb (modifier_number m.kind) (modifier_number m.kind) refl))))
few_of (r ∷ row) ms h f =
    let one = one_less r ms h in
    let rest = few_of row (without r ms) (apart_left r ms h) (λ k t. in_rest k t (keeps_left k r ms) (keeps_less k r ms) (keeps_same k)) in
    omega arith
  where
    keeps_same : (k : ModifierKind) → same_kind r k ≡ true → keeps k (without r ms) ≡ keeps r (without r ms)
    keeps_same k e = go (without r ms)
      where
        go : (xs : List Modifier) → keeps k xs ≡ keeps r xs
        go [] = refl
        go (x ∷ xs) = let ih = go xs in grind (arith, nat_tests)

    in_rest : (k : ModifierKind) → keeps k (without r ms) ≡ true → (same_kind r k || keeps k (without r ms)) ≡ (same_kind r k || keeps k ms) → (keeps k ms ≡ false → keeps k (without r ms) ≡ false) → (same_kind r k ≡ true → keeps k (without r ms) ≡ keeps r (without r ms)) → among k row ≡ true
    in_rest k t e l s =
        let none = keeps_itself r ms in
        let not-r : same_kind r k ≡ false = ⊎_elim (λ y. absurd (both_ways (keeps k (without r ms)) (s y ∙ none) t)) (λ y. y) (cases_Bool (same_kind r k)) in
        let held : keeps k ms ≡ true = ⊎_elim (λ y. y) (λ y. absurd (both_ways (keeps k (without r ms)) (l y) t)) (cases_Bool (keeps k ms)) in
        ap (λ b. b || among k row) (sym not-r) ∙ f k held

pub few : (ms : List Modifier) → apart ms ≡ true → length ms ≤ 15
few ms h = few_of every_kind ms h (λ k _. (numbers k).2)

pub room : (ms : List Modifier) (m : Modifier) → apart ms ≡ true → length (without m.kind ms) < 15
room ms m h =
    let most = few (added ms m) (apart_added ms m h) in
    let more = length-append (without m.kind ms) (m ∷ []) in
    omega arith

-- ---- the starts rise
rising_left : (k : ModifierKind) (ms : List Modifier) → ascending ms ≡ true → ascending (without k ms) ≡ true
rising_left k [] h = h
rising_left k (m ∷ ms) h =
    let hs = and_parts (list_all (λ n. ltb m.start n.start) ms) (ascending ms) h in
    step (not (same_kind m.kind k)) (all_left (λ n. ltb m.start n.start) k ms hs.0) (rising_left k ms hs.1)
  where
    step : (b : Bool) → list_all (λ n. ltb m.start n.start) (without k ms) ≡ true → ascending (without k ms) ≡ true → ascending (cond b (m ∷ without k ms) (without k ms)) ≡ true
    step true a ih = and_from (list_all (λ n. ltb m.start n.start) (without k ms)) (ascending (without k ms)) a ih
    step false a ih = ih

rising_push : (ms : List Modifier) (m : Modifier) → ascending ms ≡ true → above m.start ms ≡ true → ascending (ms ++ (m ∷ [])) ≡ true
rising_push [] m h a = refl
rising_push (x ∷ ms) m h a =
    let hs = and_parts (list_all (λ n. ltb x.start n.start) ms) (ascending ms) h in
    let us = and_parts (ltb x.start m.start) (above m.start ms) a in
    and_from (list_all (λ n. ltb x.start n.start) (ms ++ (m ∷ []))) (ascending (ms ++ (m ∷ [])))
    (all_one_more (λ n. ltb x.start n.start) ms m hs.0 us.0) (rising_push ms m hs.1 us.1)

pub rising_added : (ms : List Modifier) (m : Modifier) → ascending ms ≡ true → above m.start ms ≡ true → ascending (added ms m) ≡ true
rising_added ms m h a = rising_push (without m.kind ms) m (rising_left m.kind ms h) (all_left (λ x. ltb x.start m.start) m.kind ms a)

all_last : {X : Type 0} (p : X → Bool) (ms : List X) (m : X) → list_all p (ms ++ (m ∷ [])) ≡ true → p m ≡ true
all_last p [] m h = (and_parts (p m) true h).0
all_last p (x ∷ ms) m h = all_last p ms m (and_parts (p x) (list_all p (ms ++ (m ∷ []))) h).1

-- what is above the last is above all
pub above_last : (start : ℕ) (ms : List Modifier) (m : Modifier) → ascending (ms ++ (m ∷ [])) ≡ true → above start (ms ++ (m ∷ [])) ≡ ltb m.start start
above_last start [] m h = one (ltb m.start start)
  where
    one : (b : Bool) → (b && true) ≡ b
    one true = refl
    one false = refl
above_last start (x ∷ ms) m h =
    let hs = and_parts (list_all (λ n. ltb x.start n.start) (ms ++ (m ∷ []))) (ascending (ms ++ (m ∷ []))) h in
    ap (λ b. ltb x.start start && b) (above_last start ms m hs.1) ∙ under x.start m.start start (ltb-true x.start m.start (all_last (λ n. ltb x.start n.start) ms m hs.0))
  where
    under : (a b c : ℕ) → a < b → (ltb a c && ltb b c) ≡ ltb b c
    under a b c l = grind (arith, nat_tests)
