-- How a list is held: the numbers of the kinds in order, and the starts of all kinds.
use Rattle.std.proofs.Common.{◌≡◌, ℕ, zero, suc, ◌+◌, ◌<◌, ◌≤◌, Bool, true, false, cond, not, ◌||◌, eqb, ltb, List, [], ◌∷◌, ◌++◌, length, get_or, take, set, Some, None, filter, sym, refl, ap, ◌∙◌, ap₂, ⊎_elim, append-nil, arith, length-take}
use Rattle.std.specs.List.{list_all, slice_get}
use Rattle.std.proofs.lemmas.List.Elements.{filter_more}
use Rattle.std.proofs.lemmas.List.{take_more, take_more_set, map_push, length-map, length-take-le, get_or-map, get_or-take, get_or-set_same, get_or-set_other}
use Rattle.std.proofs.lemmas.Option.{slice_get-get_or, slice_get_past}
use Rattle.std.proofs.lemmas.Bool.{and_parts, and_from, not-true, not-false, not_from_false, eqb-false, eq-eqb, ne_eqb, ltb-true, lt-ltb, cases_lt}
use Rattle.kinds.specs.Modifiers.{modifier_number}
use Rattle.kinds.specs.declared.modifier_kind.ModifierKind.{ModifierKind}
use Rattle.modifiers.specs.declared.modifier.Modifier.{Modifier}
use Rattle.modifiers.specs.Entries.{same_kind, word_at, keeps, without, added, above, apart, ascending, entry_of, kind_at, entry_at, differs, listed}
use Rattle.kinds.proofs.Numbered.{number_at, numbers, same_kind_true}
use Rattle.modifiers.proofs.Kept.{all_one_more, above_last, room}

abbrev pub known : List ℕ → Bool
known = list_all (λ n. ltb n 15)

-- ---- the loop that leaves a number out
kept_step : (n : ℕ) (xs : List ℕ) (i : ℕ) (b : Bool) → i < length xs → differs n (get_or xs i 0) ≡ b → filter (differs n) (take (i + 1) xs) ≡ filter (differs n) (take i xs) ++ cond b (get_or xs i 0 ∷ []) []
kept_step n xs i b h e = filter_more (differs n) xs i 0 h ∙ ap (λ c. filter (differs n) (take i xs) ++ cond c (get_or xs i 0 ∷ []) []) e

pub step_other : (n : ℕ) (xs ys : List ℕ) (i w : ℕ) → i < length xs → w < length ys → (get_or xs i 0 ≡ n → ⊥) → take w ys ≡ filter (differs n) (take i xs) → take (w + 1) (set ys w (get_or xs i 0)) ≡ filter (differs n) (take (i + 1) xs)
step_other n xs ys i w h l ne e =
    take_more_set ys w (get_or xs i 0) l
    ∙ ap (λ zs. zs ++ (get_or xs i 0 ∷ [])) e
    ∙ sym (kept_step n xs i true h (not_from_false (eqb (get_or xs i 0) n) (ne_eqb (get_or xs i 0) n ne)))

pub step_same : (n : ℕ) (xs ys : List ℕ) (i w : ℕ) → i < length xs → get_or xs i 0 ≡ n → take w ys ≡ filter (differs n) (take i xs) → take w ys ≡ filter (differs n) (take (i + 1) xs)
step_same n xs ys i w h q e =
    e ∙ sym (kept_step n xs i false h (ap not (eq-eqb (get_or xs i 0) n q)) ∙ append-nil (filter (differs n) (take i xs)))

-- ---- a keyword more
known_left : (n : ℕ) (xs : List ℕ) → known xs ≡ true → known (filter (differs n) xs) ≡ true
known_left n [] h = h
known_left n (x ∷ xs) h = step (differs n x) (and_parts (ltb x 15) (known xs) h).0 (known_left n xs (and_parts (ltb x 15) (known xs) h).1)
  where
    step : (b : Bool) → ltb x 15 ≡ true → known (filter (differs n) xs) ≡ true → known (cond b (x ∷ filter (differs n) xs) (filter (differs n) xs)) ≡ true
    step true e ih = and_from (ltb x 15) (known (filter (differs n) xs)) e ih
    step false e ih = ih

pub known_moved : (n : ℕ) (xs : List ℕ) → n < 15 → known xs ≡ true → known (filter (differs n) xs ++ (n ∷ [])) ≡ true
known_moved n xs l h = all_one_more (λ x. ltb x 15) (filter (differs n) xs) n (known_left n xs h) (lt-ltb n 15 l)

entry_same : (a b : Modifier) → a.start ≡ b.start → a.kind ≡ b.kind → a ≡ b
entry_same a b p q i = record { start = p i; kind = q i }

-- the entries of the other numbers stay, whatever is written at this one
left_listed : (starts : List ℕ) (kind : ModifierKind) (start : ℕ) (xs : List ℕ) → known xs ≡ true → listed (set starts (modifier_number kind) start) (filter (differs (modifier_number kind)) xs) ≡ without kind (listed starts xs)
left_listed starts kind start [] h = refl
left_listed starts kind start (x ∷ xs) h =
    step (differs (modifier_number kind) x) refl (ltb-true x 15 (and_parts (ltb x 15) (known xs) h).0)
    (left_listed starts kind start xs (and_parts (ltb x 15) (known xs) h).1)
  where
    step : (b : Bool) → differs (modifier_number kind) x ≡ b → x < 15 → listed (set starts (modifier_number kind) start) (filter (differs (modifier_number kind)) xs) ≡ without kind (listed starts xs) → listed (set starts (modifier_number kind) start) (cond b (x ∷ filter (differs (modifier_number kind)) xs) (filter (differs (modifier_number kind)) xs)) ≡ without kind (listed starts (x ∷ xs))
    step true e l ih =
        ap₂ ◌∷◌ (entry_same (entry_at (set starts (modifier_number kind) start) x) (entry_at starts x) (get_or-set_other starts (modifier_number kind) x start 0 (eqb-false x (modifier_number kind) (not-true (eqb x (modifier_number kind)) e))) refl) ih
        ∙ sym (ap (λ t. cond (not t) (entry_at starts x ∷ without kind (listed starts xs)) (without kind (listed starts xs))) (ap (λ m. eqb m (modifier_number kind)) (number_at x l) ∙ not-true (eqb x (modifier_number kind)) e))
    step false e l ih =
        ih
        ∙ sym (ap (λ t. cond (not t) (entry_at starts x ∷ without kind (listed starts xs)) (without kind (listed starts xs))) (ap (λ m. eqb m (modifier_number kind)) (number_at x l) ∙ not-false (eqb x (modifier_number kind)) e))

pub listed_moved : (starts : List ℕ) (kind : ModifierKind) (start : ℕ) (xs : List ℕ) → length starts ≡ 15 → known xs ≡ true → listed (set starts (modifier_number kind) start) (filter (differs (modifier_number kind)) xs ++ (modifier_number kind ∷ [])) ≡ added (listed starts xs) (word_at kind start)
listed_moved starts kind start xs len h =
    let ns = numbers kind in
    let low : modifier_number kind < length starts = (let b = ns.1 in omega arith) in
    let all = set starts (modifier_number kind) start in
    map_push (entry_at all) (filter (differs (modifier_number kind)) xs) (modifier_number kind)
    ∙ ap₂ (λ l m. l ++ (m ∷ [])) (left_listed starts kind start xs h)
    (entry_same (entry_at all (modifier_number kind)) (word_at kind start) (get_or-set_same starts (modifier_number kind) start 0 low) ns.0)

-- the order with the number at its end, and what it lists
module _ (starts order xs : List ℕ) (w n start : ℕ) (kind : ModifierKind) (numbered : n ≡ modifier_number kind) (long : length starts ≡ 15) (inside : w < length order) (left : take w order ≡ filter (differs n) xs) (all : known xs ≡ true) where
  pub order_moved : take (w + 1) (set order w n) ≡ filter (differs n) xs ++ (n ∷ [])
  order_moved = take_more_set order w n inside ∙ ap (λ zs. zs ++ (n ∷ [])) left

  pub order_known : known (take (w + 1) (set order w n)) ≡ true
  order_known =
      let low = (numbers kind).1 in
      ap known order_moved ∙ known_moved n xs (omega arith) all

  pub order_listed : listed (set starts n start) (take (w + 1) (set order w n)) ≡ added (listed starts xs) (word_at kind start)
  order_listed =
      ap (listed (set starts n start)) order_moved
      ∙ ap (λ k. listed (set starts k start) (filter (differs k) xs ++ (k ∷ []))) numbered
      ∙ listed_moved starts kind start xs long all

-- what is absent stays without a start
pub blank_moved : (starts : List ℕ) (n start : ℕ) (kind k : ModifierKind) → n ≡ modifier_number kind → same_kind kind k ≡ false → get_or starts (modifier_number k) 0 ≡ 0 → get_or (set starts n start) (modifier_number k) 0 ≡ 0
blank_moved starts n start kind k e f z =
    get_or-set_other starts n (modifier_number k) start 0 (λ q. eqb-false (modifier_number kind) (modifier_number k) f (sym e ∙ sym q)) ∙ z

-- as many numbers are left as entries
length_left : (starts : List ℕ) (kind : ModifierKind) (xs : List ℕ) → known xs ≡ true → length (filter (differs (modifier_number kind)) xs) ≡ length (without kind (listed starts xs))
length_left starts kind xs h =
    sym (length-map (filter (differs (modifier_number kind)) xs) (entry_at (set starts (modifier_number kind) 0)))
    ∙ ap length (left_listed starts kind 0 xs h)

pub room_left : (starts order xs : List ℕ) (w n : ℕ) (kind : ModifierKind) → n ≡ modifier_number kind → w ≤ length order → take w order ≡ filter (differs n) xs → known xs ≡ true → apart (listed starts xs) ≡ true → w < 15
room_left starts order xs w n kind e l left all once =
    let short = length-take-le w order l in
    let same = ap length (left ∙ ap (λ k. filter (differs k) xs) e) in
    let fewer = length_left starts kind xs all in
    let low = room (listed starts xs) (word_at kind 0) once in
    omega arith

-- ---- the entry of a kind
pub entry_found : (starts : List ℕ) (kind : ModifierKind) (xs : List ℕ) → known xs ≡ true → entry_of kind (listed starts xs) ≡ cond (keeps kind (listed starts xs)) (Some (word_at kind (get_or starts (modifier_number kind) 0))) None
entry_found starts kind [] h = refl
entry_found starts kind (x ∷ xs) h =
    step (same_kind (kind_at x) kind) refl (ltb-true x 15 (and_parts (ltb x 15) (known xs) h).0)
    (entry_found starts kind xs (and_parts (ltb x 15) (known xs) h).1)
  where
    step : (b : Bool) → same_kind (kind_at x) kind ≡ b → x < 15 → entry_of kind (listed starts xs) ≡ cond (keeps kind (listed starts xs)) (Some (word_at kind (get_or starts (modifier_number kind) 0))) None → cond b (Some (entry_at starts x)) (entry_of kind (listed starts xs)) ≡ cond (b || keeps kind (listed starts xs)) (Some (word_at kind (get_or starts (modifier_number kind) 0))) None
    step true e l ih =
        ap Some (entry_same (entry_at starts x) (word_at kind (get_or starts (modifier_number kind) 0)) (ap (λ n. get_or starts n 0) (sym (number_at x l) ∙ ap modifier_number (same_kind_true (kind_at x) kind e))) (same_kind_true (kind_at x) kind e))
    step false e l ih = ih

-- ---- the last entry
pub above_all : (starts order : List ℕ) (i start : ℕ) → i < length order → ascending (listed starts (take (i + 1) order)) ≡ true → above start (listed starts (take (i + 1) order)) ≡ ltb (get_or starts (get_or order i 0) 0) start
above_all starts order i start l h =
    let split : listed starts (take (i + 1) order) ≡ listed starts (take i order) ++ (entry_at starts (get_or order i 0) ∷ []) =
    ap (listed starts) (take_more order i 0 l) ∙ map_push (entry_at starts) (take i order) (get_or order i 0) in
    ap (above start) split
    ∙ above_last start (listed starts (take i order)) (entry_at starts (get_or order i 0)) (ap ascending (sym split) ∙ h)

-- ---- by places
pub all_nth : {X : Type 0} (p : X → Bool) (xs : List X) (i : ℕ) (d : X) → i < length xs → list_all p xs ≡ true → p (get_or xs i d) ≡ true
all_nth p [] i d l h = let z : ⊥ = omega arith in absurd z
all_nth p (x ∷ xs) zero d l h = (and_parts (p x) (list_all p xs) h).0
all_nth p (x ∷ xs) (suc i) d l h = all_nth p xs i d (omega arith) (and_parts (p x) (list_all p xs) h).1

pub all_found : {X : Type 0} (p : X → Bool) (xs : List X) (i : ℕ) (x : X) → list_all p xs ≡ true → slice_get xs i ≡ Some x → p x ≡ true
all_found p xs i x h e =
    ⊎_elim (λ l. ap p (sym (inside l)) ∙ all_nth p xs i x l h) (λ l. absurd (some_none (sym e ∙ slice_get_past xs i l))) (cases_lt i (length xs))
  where
    inside : i < length xs → get_or xs i x ≡ x
    inside l = let f = slice_get-get_or xs i x l in cc

    some_none : Some x ≡ None → ⊥
    some_none q = let z : ◌≡◌ {A = ℕ} 0 1 = cc in omega arith

pub known_at : (order : List ℕ) (len i : ℕ) → i < len → i < length order → known (take len order) ≡ true → get_or order i 0 < 15
known_at order len i l m h =
    let size = length-take len order in
    let inside : i < length (take len order) = omega arith in
    ltb-true (get_or order i 0) 15 (ap (λ x. ltb x 15) (sym (get_or-take len order i 0 l)) ∙ all_nth (λ x. ltb x 15) (take len order) i 0 inside h)

pub length_listed : (starts order : List ℕ) (len : ℕ) → len ≤ length order → length (listed starts (take len order)) ≡ len
length_listed starts order len l = length-map (take len order) (entry_at starts) ∙ length-take-le len order l

pub nth_listed : (starts order : List ℕ) (len i : ℕ) → i < len → len ≤ length order → slice_get (listed starts (take len order)) i ≡ Some (entry_at starts (get_or order i 0))
nth_listed starts order len i l m =
    let size = length_listed starts order len m in
    let short = length-take-le len order m in
    let inside : i < length (listed starts (take len order)) = omega arith in
    let there : i < length (take len order) = omega arith in
    slice_get-get_or (listed starts (take len order)) i (entry_at starts 0) inside
    ∙ ap Some (get_or-map (entry_at starts) (take len order) i 0 (entry_at starts 0) there ∙ ap (entry_at starts) (get_or-take len order i 0 l))
