-- A check reports each kind that it disallows once, at its last occurrence.
use Rattle.std.proofs.Common.{◌≡◌, ℕ, suc, ◌<◌, Bool, true, false, cond, not, ◌&&◌, ◌||◌, eqb, ltb, List, [], ◌∷◌, ◌++◌, map, length, drop, filter, Option, sym, refl, ap, ◌∙◌, subst, append_assoc, append-nil, add-one, arith, length-append}
use Rattle.std.proofs.Math.Seq.{drop-append-add, get_or-append_seam}
use Rattle.std.proofs.lemmas.List.Elements.{filter-append}
use Rattle.std.proofs.lemmas.Bool.{and_from, and_parts, both_ways, ltb-true}
use Rattle.std.proofs.lemmas.Bool.Decides.{nat_tests}
use Rattle.std.specs.List.{list_all}
use Rattle.checks.specs.Laws.{CheckedOnce, ChecksStand, LastDisallowed, Worded}
use Rattle.checks.specs.Sayings.{Saying, disallowed_reports, given, report_unless, said_of}
use Rattle.keywords.proofs.Cuts.{length_push}
use Rattle.keywords.specs.Laws.{keyword_at, kind_at}
use Rattle.keywords.specs.Run.{lasts, lasts_from, place_of}
use Rattle.kinds.specs.Modifiers.{modifier_number}
use Rattle.kinds.specs.declared.modifier_kind.ModifierKind.{ModifierKind}
use Rattle.kinds.specs.declared.modifier_kind.ModifierKind.TheVariants.{Declare}
use Rattle.modifiers.specs.Entries.{added, ascending, keeps, same_kind, without, word_at}
use Rattle.modifiers.specs.declared.modifier.Modifier.{Modifier}
use Rattle.reports.proofs.Places.{OneFrom, from_all, from_end, from_skip, from_take}
use Rattle.reports.specs.OneEach.{Ascending, Every, OneEach}
use Rattle.reports.specs.declared.Report.{Report}
use Rattle.small_set.specs.Members.{member}

-- ---- each kind at its last place, from the front
abbrev last_ones : List Modifier → List Modifier
last_ones [] = []
last_ones (k ∷ ks) = cond (keeps k.kind ks) (last_ones ks) (k ∷ last_ones ks)

-- those that do not occur again
abbrev not_again : List Modifier → Modifier → Bool
not_again ks m = not (keeps m.kind ks)

kept_by_all : (ms : List Modifier) → filter (not_again []) ms ≡ ms
kept_by_all [] = refl
kept_by_all (m ∷ ms) = ap (λ l. m ∷ l) (kept_by_all ms)

kept_by_both : (p q r : Modifier → Bool) → ((m : Modifier) → (q m && p m) ≡ r m) → (ms : List Modifier) → filter p (filter q ms) ≡ filter r ms
kept_by_both p q r h [] = refl
kept_by_both p q r h (m ∷ ms) =
    go (q m) (p m) refl (kept_by_both p q r h ms) ∙ ap (λ b. cond b (m ∷ filter r ms) (filter r ms)) (h m)
  where
    go : (a b : Bool) → p m ≡ b → filter p (filter q ms) ≡ filter r ms → filter p (cond a (m ∷ filter q ms) (filter q ms)) ≡ cond (a && b) (m ∷ filter r ms) (filter r ms)
    go true true e ih = ap (λ c. cond c (m ∷ filter p (filter q ms)) (filter p (filter q ms))) e ∙ ap (λ l. m ∷ l) ih
    go true false e ih = ap (λ c. cond c (m ∷ filter p (filter q ms)) (filter p (filter q ms))) e ∙ ih
    go false b e ih = ih

eqb_swap : (a b : ℕ) → eqb a b ≡ eqb b a
eqb_swap a b = grind (arith, nat_tests)

nor : (a b c : Bool) → a ≡ b → (not a && not c) ≡ not (b || c)
nor true true c e = refl
nor false false c e = refl
nor true false c e = let z : ◌≡◌ {A = ℕ} 0 1 = cc in absurd (omega arith)
nor false true c e = let z : ◌≡◌ {A = ℕ} 0 1 = cc in absurd (omega arith)

lasts_split : (ms ks : List Modifier) → lasts_from ms ks ≡ filter (not_again ks) ms ++ last_ones ks
lasts_split ms [] = sym (append-nil (filter (not_again []) ms) ∙ kept_by_all ms)
lasts_split ms (k ∷ ks) =
    lasts_split (added ms k) ks
    ∙ ap (λ l. l ++ last_ones ks)
    (filter-append (not_again ks) (without k.kind ms) (k ∷ [])
    ∙ ap (λ l. l ++ filter (not_again ks) (k ∷ []))
    (kept_by_both (not_again ks) (λ m. not (same_kind m.kind k.kind)) (not_again (k ∷ ks))
    (λ m. nor (same_kind m.kind k.kind) (same_kind k.kind m.kind) (keeps m.kind ks) (eqb_swap (modifier_number m.kind) (modifier_number k.kind))) ms))
    ∙ append_assoc (filter (not_again (k ∷ ks)) ms) (filter (not_again ks) (k ∷ [])) (last_ones ks)
    ∙ ap (λ l. filter (not_again (k ∷ ks)) ms ++ l) (one (keeps k.kind ks))
  where
    one : (b : Bool) → cond (not b) (k ∷ []) [] ++ last_ones ks ≡ cond b (last_ones ks) (k ∷ last_ones ks)
    one true = refl
    one false = refl

lasts_are : (ks : List Modifier) → lasts ks ≡ last_ones ks
lasts_are ks = lasts_split [] ks

-- ---- starts ascend
all_last_ones : (p : Modifier → Bool) (ks : List Modifier) → list_all p ks ≡ true → list_all p (last_ones ks) ≡ true
all_last_ones p [] h = h
all_last_ones p (k ∷ ks) h = let hs = and_parts (p k) (list_all p ks) h in step (keeps k.kind ks) hs.0 (all_last_ones p ks hs.1)
  where
    step : (b : Bool) → p k ≡ true → list_all p (last_ones ks) ≡ true → list_all p (cond b (last_ones ks) (k ∷ last_ones ks)) ≡ true
    step true e ih = ih
    step false e ih = and_from (p k) (list_all p (last_ones ks)) e ih

rising_last_ones : (ks : List Modifier) → ascending ks ≡ true → ascending (last_ones ks) ≡ true
rising_last_ones [] h = h
rising_last_ones (k ∷ ks) h =
    let hs = and_parts (list_all (λ n. ltb k.start n.start) ks) (ascending ks) h in
    step (keeps k.kind ks) (all_last_ones (λ n. ltb k.start n.start) ks hs.0) (rising_last_ones ks hs.1)
  where
    step : (b : Bool) → list_all (λ n. ltb k.start n.start) (last_ones ks) ≡ true → ascending (last_ones ks) ≡ true → ascending (cond b (last_ones ks) (k ∷ last_ones ks)) ≡ true
    step true e ih = ih
    step false e ih = and_from (list_all (λ n. ltb k.start n.start) (last_ones ks)) (ascending (last_ones ks)) e ih

module _ (allowed : ℕ) (strict : Bool) (says : ModifierKind → Option ℕ → Saying) where
  abbrev checked : List Modifier → List Report
  checked = disallowed_reports allowed strict says

  abbrev said : Modifier → Report
  said m = said_of (says m.kind (given strict allowed)) m.kind (place_of m)

  abbrev starts : List Report → List ℕ
  starts = map (λ r. r.start)

  starts_below : (x : ℕ) (ms : List Modifier) → list_all (λ n. ltb x n.start) ms ≡ true → Every (λ j. x < j) (starts (checked ms))
  starts_below x [] h = tt
  starts_below x (m ∷ ms) h =
      let hs = and_parts (ltb x m.start) (list_all (λ n. ltb x n.start) ms) h in
      step (member allowed (modifier_number m.kind)) (ltb-true x m.start hs.0) (starts_below x ms hs.1)
    where
      step : (b : Bool) → x < m.start → Every (λ j. x < j) (starts (checked ms)) → Every (λ j. x < j) (starts (report_unless b (said m) ++ checked ms))
      step true l ih = ih
      step false l ih = (l, ih)

  pub starts_ascend : (ms : List Modifier) → ascending ms ≡ true → Ascending (starts (checked ms))
  starts_ascend [] h = tt
  starts_ascend (m ∷ ms) h =
      let hs = and_parts (list_all (λ n. ltb m.start n.start) ms) (ascending ms) h in
      step (member allowed (modifier_number m.kind)) (starts_below m.start ms hs.0) (starts_ascend ms hs.1)
    where
      step : (b : Bool) → Every (λ j. m.start < j) (starts (checked ms)) → Ascending (starts (checked ms)) → Ascending (starts (report_unless b (said m) ++ checked ms))
      step true l ih = ih
      step false l ih = (l, ih)

  -- ---- one report for each
  check_from : (kept pre rest : List Modifier) → kept ≡ pre ++ rest → OneFrom (LastDisallowed allowed kept) (Worded allowed strict says kept) (length pre) (length kept) (checked (last_ones rest))
  check_from kept pre [] e =
      from_end (LastDisallowed allowed kept) (Worded allowed strict says kept) (length pre) (length kept)
      (let l : length kept ≡ length pre = ap length (e ∙ append-nil pre) in omega arith)
  check_from kept pre (m ∷ ms) e =
      step (keeps m.kind ms) refl (member allowed (modifier_number m.kind)) refl
      (rw (length_push pre m) at (check_from kept (pre ++ (m ∷ [])) ms (e ∙ sym (append_assoc pre (m ∷ []) ms))))
    where
      here : keyword_at kept (length pre) ≡ m
      here = ap (λ l. keyword_at l (length pre)) e ∙ get_or-append_seam pre m ms (word_at Declare 0)

      later : drop (suc (length pre)) kept ≡ ms
      later = ap (drop (suc (length pre))) e ∙ rw add-one at (drop-append-add pre (m ∷ ms) 1)

      lt : length pre < length kept
      lt = rw e (omega (arith, length-append pre (m ∷ ms)))

      -- whether it occurs again, and whether it is allowed, by its place
      again : keeps (kind_at kept (length pre)) (drop (suc (length pre)) kept) ≡ keeps m.kind ms
      again = ap (λ x. keeps x.kind (drop (suc (length pre)) kept)) here ∙ ap (keeps m.kind) later

      allows : member allowed (modifier_number (kind_at kept (length pre))) ≡ member allowed (modifier_number m.kind)
      allows = ap (λ x. member allowed (modifier_number x.kind)) here

      step : (b : Bool) → keeps m.kind ms ≡ b → (a : Bool) → member allowed (modifier_number m.kind) ≡ a → OneFrom (LastDisallowed allowed kept) (Worded allowed strict says kept) (suc (length pre)) (length kept) (checked (last_ones ms)) → OneFrom (LastDisallowed allowed kept) (Worded allowed strict says kept) (length pre) (length kept) (checked (cond b (last_ones ms) (m ∷ last_ones ms)))
      step true f a g x =
          from_skip (LastDisallowed allowed kept) (Worded allowed strict says kept) (length pre) (length kept) _
          (λ d. both_ways (keeps m.kind ms) (sym again ∙ d.1) f) x
      step false f true g x =
          subst (λ (c : Bool). OneFrom (LastDisallowed allowed kept) (Worded allowed strict says kept) (length pre) (length kept) (report_unless c (said m) ++ checked (last_ones ms))) (sym g)
          (from_skip (LastDisallowed allowed kept) (Worded allowed strict says kept) (length pre) (length kept) _
          (λ d. both_ways (member allowed (modifier_number m.kind)) (sym allows ∙ d.0) g) x)
      step false f false g x =
          subst (λ (c : Bool). OneFrom (LastDisallowed allowed kept) (Worded allowed strict says kept) (length pre) (length kept) (report_unless c (said m) ++ checked (last_ones ms))) (sym g)
          (from_take (LastDisallowed allowed kept) (Worded allowed strict says kept) (length pre) (length kept) (said m) _ lt (allows ∙ g, again ∙ f) (sym (ap said here)) x)

  pub checked_lasts : (kept ms : List Modifier) → ms ≡ lasts kept → ascending ms ≡ true → CheckedOnce allowed strict says kept (checked ms)
  checked_lasts kept ms e h =
      record {
        once = subst (λ (l : List Modifier). OneEach (LastDisallowed allowed kept) (Worded allowed strict says kept) (length kept) (checked l)) (sym (e ∙ lasts_are kept))
            (from_all (LastDisallowed allowed kept) (Worded allowed strict says kept) (length kept) _ (check_from kept [] kept refl));
        ascend = starts_ascend ms h;
      }

pub checks_stand_lem : ChecksStand
checks_stand_lem allowed strict says kept h = checked_lasts allowed strict says kept (lasts kept) refl (ap ascending (lasts_are kept) ∙ rising_last_ones kept h)
