-- How the stretches that are read one after another make up the parameters of a list.
use Rattle.std.proofs.Common.{◌≡◌, ℕ, suc, ◌+◌, ◌-◌, ◌^◌, ◌<◌, ◌≤◌, Bool, true, false, cond, ◌&&◌, eqb, leb, List, [], ◌∷◌, length, is_some, Some, None, Option, sym, refl, ap, ◌∙◌, add-zero, arith, eq-eqb, ne_eqb}
use borrow.Author.Tests.{true-leb}
use native.Mathlib.Nat.{min-eq_left, min-eq_right}
use Rattle.std.proofs.lemmas.Bool.Decides.{nat_tests}
use Rattle.std.specs.Option.{option_or}
use Rattle.parts.specs.declared.Span.{Span}
use Rattle.reader.specs.Scenes.{Scene, past, past_one}
use Rattle.reader.specs.Tokens.{ahead, head, is_eof, next}
use Rattle.reader.proofs.Closing.{next_falls}
use Rattle.reader.proofs.Taking.{length_left, past_both}
use Rattle.token.specs.Kinds.{k_comma, k_dot3, k_this}
use Rattle.token.specs.declared.Token.{Token}
use Rattle.brackets.specs.Depth.{at_closer, capped, deeper, inside, up_to}
use Rattle.brackets.specs.Inner.{ends_stretch, none, started_by, stretch_of, told, with_one}
use Rattle.brackets.specs.Parameters.{filled, first, item_of, items_of, listed, one_if, onto, parameters_of, rest_of, span_of, stretches}
use Rattle.brackets.specs.declared.parameters.Item.{Item}
use Rattle.brackets.specs.declared.parameters.Parameters.{Parameters}
use Rattle.brackets.specs.declared.parameters.Stretch.{Stretch}

-- at a comma, the stretches after it
abbrev pub left_parts : List Token → List (List Token)
left_parts ts = cond (eqb (head ts).kind.code k_comma) (stretches 0 (inside (next ts))) []

-- and the tokens up to the closer
abbrev pub left_count : List Token → ℕ
left_count ts = cond (eqb (head ts).kind.code k_comma) (1 + length (inside (next ts))) 0

-- the three ways of a token
end_way : (d : ℕ) (t : Token) → at_closer d t ≡ true → (eqb t.kind.code k_comma ≡ false) × (ends_stretch d t ≡ true)
end_way d t h = (grind (arith, nat_tests), grind (arith, nat_tests))

comma_way : (d : ℕ) (t : Token) → at_closer d t ≡ false → (eqb d 0 && eqb t.kind.code k_comma) ≡ true → (d ≡ 0) × (eqb t.kind.code k_comma ≡ true) × (ends_stretch d t ≡ true) × (is_eof t ≡ false) × (deeper d t.kind.code ≡ 0)
comma_way d t h e = (grind (arith, nat_tests), grind (arith, nat_tests), grind (arith, nat_tests), grind (arith, nat_tests), grind (arith, nat_tests))

on_way : (d : ℕ) (t : Token) → at_closer d t ≡ false → (eqb d 0 && eqb t.kind.code k_comma) ≡ false → (ends_stretch d t ≡ false) × (is_eof t ≡ false)
on_way d t h e = (grind (arith, nat_tests), grind (arith, nat_tests))

ahead_cons : (n : ℕ) (t : Token) (ts : List Token) → is_eof t ≡ false → ahead (suc n) (t ∷ ts) ≡ ahead n ts
ahead_cons n t ts e = let f : next (t ∷ ts) ≡ ts = rw e in ap (ahead n) f

-- the first stretch, and where it leaves off
abbrev front : ℕ → List Token → List Token
front d ts = up_to ends_stretch d ts

abbrev left : ℕ → List Token → List Token
left d ts = ahead (length (front d ts)) ts

pub parts_are : (d : ℕ) (ts : List Token) → stretches d (up_to at_closer d ts) ≡ front d ts ∷ left_parts (left d ts)
parts_are d [] = refl
parts_are d (t ∷ ts) = by (at_closer d t) (eqb d 0 && eqb t.kind.code k_comma) refl refl (parts_are (deeper d t.kind.code) ts)
  where
    by : (a b : Bool) → at_closer d t ≡ a → (eqb d 0 && eqb t.kind.code k_comma) ≡ b →
        stretches (deeper d t.kind.code) (up_to at_closer (deeper d t.kind.code) ts) ≡ front (deeper d t.kind.code) ts ∷ left_parts (left (deeper d t.kind.code) ts) →
        stretches d (up_to at_closer d (t ∷ ts)) ≡ front d (t ∷ ts) ∷ left_parts (left d (t ∷ ts))
    by true b h e ih = let w = end_way d t h in rw (h, w.1, w.0)
    by false true h e ih =
        let w = comma_way d t h e in
        rw (h, e, w.2, w.1, w.3) (ap (λ k. [] ∷ stretches k (up_to at_closer k ts)) w.4)
    by false false h e ih =
        let w = on_way d t h e in
        let s = front (deeper d t.kind.code) ts in
        rw (h, e, w.0) (ap (onto t) ih ∙ ap (λ l. (t ∷ s) ∷ left_parts l) (sym (ahead_cons (length s) t ts w.1)))

pub count_is : (d : ℕ) (ts : List Token) → length (up_to at_closer d ts) ≡ length (front d ts) + left_count (left d ts)
count_is d [] = refl
count_is d (t ∷ ts) = by (at_closer d t) (eqb d 0 && eqb t.kind.code k_comma) refl refl (count_is (deeper d t.kind.code) ts)
  where
    by : (a b : Bool) → at_closer d t ≡ a → (eqb d 0 && eqb t.kind.code k_comma) ≡ b →
        length (up_to at_closer (deeper d t.kind.code) ts) ≡ length (front (deeper d t.kind.code) ts) + left_count (left (deeper d t.kind.code) ts) →
        length (up_to at_closer d (t ∷ ts)) ≡ length (front d (t ∷ ts)) + left_count (left d (t ∷ ts))
    by true b h e ih = let w = end_way d t h in rw (h, w.1, w.0)
    by false true h e ih =
        let w = comma_way d t h e in
        let z : length (up_to at_closer (deeper d t.kind.code) ts) ≡ length (up_to at_closer 0 ts) = ap (λ k. length (up_to at_closer k ts)) w.4 in
        rw (h, w.2, w.1, w.3) (omega arith)
    by false false h e ih =
        let w = on_way d t h e in
        let s = front (deeper d t.kind.code) ts in
        let a : left_count (ahead (suc (length s)) (t ∷ ts)) ≡ left_count (ahead (length s) ts) = ap left_count (ahead_cons (length s) t ts w.1) in
        rw (h, w.0) (omega arith)

abbrev next_item : Bool → List (List Token) → Option (List Token)
next_item rest ss = cond rest (first ss) (first (items_of ss))

-- what the parameters become with the stretches to come
abbrev pub finish : Parameters → List (List Token) → Parameters
finish p ss =
    record {
      this_param = p.this_param;
      rest = option_or p.rest (span_of (rest_of (filled ss)));
      first_item = option_or p.first_item (item_of (next_item (is_some p.rest) (filled ss)));
      count = capped (p.count + length (filled ss));
    }

abbrev parameters : Option Span → Option Span → Option Item → ℕ → Parameters
parameters t r i n = record { this_param = t; rest = r; first_item = i; count = n }

pub finish_none : (p : Parameters) → p.count ≤ 2 ^ 32 - 1 → p ≡ finish p []
finish_none p few =
    let n : p.count ≡ capped (p.count + 0) = sym (ap capped (add-zero p.count) ∙ min-eq_left few) in
    λ i. parameters p.this_param (no_rest p.rest i) (no_item p.first_item (is_some p.rest) i) (n i)
  where
    no_rest : (r : Option Span) → r ≡ option_or r None
    no_rest None = refl
    no_rest (Some x) = refl

    no_item : (r : Option Item) (b : Bool) → r ≡ option_or r (item_of (next_item b []))
    no_item None true = refl
    no_item None false = refl
    no_item (Some x) b = refl

-- items and rest are all there are
split : (ss : List (List Token)) → length ss ≡ length (items_of ss) + one_if (rest_of ss)
split [] = refl
split (s ∷ ss) = by (eqb (head s).kind.code k_dot3) refl (split ss)
  where
    by : (b : Bool) → eqb (head s).kind.code k_dot3 ≡ b → length ss ≡ length (items_of ss) + one_if (rest_of ss) → length (s ∷ ss) ≡ length (items_of (s ∷ ss)) + one_if (rest_of (s ∷ ss))
    by true e ih = rw e (omega arith)
    by false e ih = rw e (omega arith)

finish_start : (t : Option (List Token)) (ss : List (List Token)) → finish (parameters (span_of t) None None 0) ss ≡ listed t (filled ss)
finish_start t ss =
    let e : 0 + length (filled ss) ≡ length (items_of (filled ss)) + one_if (rest_of (filled ss)) = omega (arith, split (filled ss)) in
    λ i. parameters (span_of t) (span_of (rest_of (filled ss))) (item_of (first (items_of (filled ss)))) (capped (e i))

capped_more : (n m : ℕ) → capped (capped (n + 1) + m) ≡ capped (n + suc m)
capped_more n m = by (leb (n + 1) (2 ^ 32 - 1)) refl
  where
    by : (b : Bool) → leb (n + 1) (2 ^ 32 - 1) ≡ b → capped (capped (n + 1) + m) ≡ capped (n + suc m)
    by true e =
        let p : capped (n + 1) ≡ n + 1 = min-eq_left (true-leb _ _ (sym e)) in
        let q : n + 1 + m ≡ n + suc m = omega arith in
        ap (λ x. capped (x + m)) p ∙ ap capped q
    by false e =
        let l : 2 ^ 32 - 1 < n + 1 = grind (arith, nat_tests) in
        let p : capped (n + 1) ≡ 2 ^ 32 - 1 = min-eq_right (omega arith) in
        let q : capped (2 ^ 32 - 1 + m) ≡ 2 ^ 32 - 1 = min-eq_right (omega arith) in
        let r : capped (n + suc m) ≡ 2 ^ 32 - 1 = min-eq_right (omega arith) in
        ap (λ x. capped (x + m)) p ∙ q ∙ sym r

or_settled : (i : Option Item) (x : Item) (y : Option Item) → option_or (option_or i (Some x)) y ≡ option_or i (Some x)
or_settled None x y = refl
or_settled (Some z) x y = refl

-- one more stretch, by whether it begins with `...`, and whether there is a rest
more_way : (k : Bool) (t r : Option Span) (i : Option Item) (n : ℕ) (u : Token) (us : List Token) (ss : List (List Token)) → eqb u.kind.code k_dot3 ≡ k →
    finish (with_one (parameters t r i n) (told (u ∷ us))) ss ≡ finish (parameters t r i n) ((u ∷ us) ∷ ss)
more_way true t None i n u us ss f = rw (f, capped_more n (length (filled ss)))
more_way true t (Some y) i n u us ss f = rw (f, capped_more n (length (filled ss)), or_settled)
more_way false t None i n u us ss f = rw (f, capped_more n (length (filled ss)), or_settled)
more_way false t (Some y) i n u us ss f = rw (f, capped_more n (length (filled ss)), or_settled)

finish_more : (p : Parameters) (s : List Token) (ss : List (List Token)) → finish (with_one p (told s)) ss ≡ finish p (s ∷ ss)
finish_more p [] ss = refl
finish_more p (u ∷ us) ss = more_way _ p.this_param p.rest p.first_item p.count u us ss refl

finish_first : (s : List Token) (ss : List (List Token)) → finish (started_by (told s)) ss ≡ parameters_of (s ∷ ss)
finish_first [] ss = finish_start None ss
finish_first (t ∷ ts) ss = by (eqb t.kind.code k_this) refl
  where
    by : (b : Bool) → eqb t.kind.code k_this ≡ b → finish (started_by (told (t ∷ ts))) ss ≡ parameters_of ((t ∷ ts) ∷ ss)
    by true e = rw e (finish_start (Some (t ∷ ts)) ss)
    by false e = rw e (finish_more none (t ∷ ts) ss ∙ finish_start None ((t ∷ ts) ∷ ss))

-- a stretch that was taken
module _ (a b : Scene) (m : b ≡ past (length (stretch_of a.tokens)) a) where
  parts_read : stretches 0 (inside a.tokens) ≡ stretch_of a.tokens ∷ left_parts b.tokens
  parts_read = parts_are 0 a.tokens ∙ ap (λ z. stretch_of a.tokens ∷ left_parts z.tokens) (sym m)

  pub scene_read : past (left_count b.tokens) b ≡ past (length (inside a.tokens)) a
  scene_read =
      let n = length (stretch_of a.tokens) in
      (λ i. past (left_count (m i).tokens) (m i)) ∙ past_both n (left_count (ahead n a.tokens)) a ∙ ap (λ j. past j a) (sym (count_is 0 a.tokens))

  pub first_read : (p : Parameters) (s : Option Stretch) → s ≡ told (stretch_of a.tokens) → p ≡ started_by s → finish p (left_parts b.tokens) ≡ parameters_of (stretches 0 (inside a.tokens))
  first_read p s e f =
      ap (λ x. finish x (left_parts b.tokens)) (f ∙ ap started_by e) ∙ finish_first (stretch_of a.tokens) (left_parts b.tokens) ∙ ap parameters_of (sym parts_read)

-- a comma, and a stretch after it
module _ (s a b : Scene) (k : (head s.tokens).kind.code ≡ k_comma) (q : a ≡ past_one s) (m : b ≡ past (length (stretch_of a.tokens)) a) where
  at_comma : eqb (head s.tokens).kind.code k_comma ≡ true
  at_comma = eq-eqb _ _ k

  pub scene_turn : past (left_count b.tokens) b ≡ past (left_count s.tokens) s
  scene_turn =
      let n : left_count s.tokens ≡ suc (length (inside (next s.tokens))) = rw at_comma (omega arith) in
      scene_read a b m ∙ (λ i. past (length (inside (q i).tokens)) (q i)) ∙ ap (λ j. past j s) (sym n)

  pub parts_turn : (p p' : Parameters) (x : Option Stretch) → x ≡ told (stretch_of a.tokens) → p' ≡ with_one p x → finish p' (left_parts b.tokens) ≡ finish p (left_parts s.tokens)
  parts_turn p p' x e f =
      let l : left_parts s.tokens ≡ stretches 0 (inside (next s.tokens)) = rw at_comma in
      ap (λ z. finish z (left_parts b.tokens)) (f ∙ ap (with_one p) e)
      ∙ finish_more p (stretch_of a.tokens) (left_parts b.tokens)
      ∙ ap (finish p) (sym (parts_read a b m))
      ∙ ap (λ z. finish p (stretches 0 (inside z.tokens))) q
      ∙ ap (finish p) (sym l)

  pub length_turn : length b.tokens < length s.tokens
  length_turn =
      let n = length (stretch_of a.tokens) in
      let x : length b.tokens ≡ length (ahead n a.tokens) = ap (λ z. length z.tokens) m in
      let y : length a.tokens ≡ length (next s.tokens) = ap (λ z. length z.tokens) q in
      omega (arith, length_left n a.tokens, next_falls s.tokens (λ z. omega arith))

-- no comma
module _ (s : Scene) (k : (head s.tokens).kind.code ≡ k_comma → ⊥) where
  pub scene_end : s ≡ past (left_count s.tokens) s
  scene_end = let n : left_count s.tokens ≡ 0 = rw (ne_eqb _ _ k) in ap (λ j. past j s) (sym n)

  pub parts_end : (p : Parameters) → p.count ≤ 2 ^ 32 - 1 → p ≡ finish p (left_parts s.tokens)
  parts_end p h = let l : left_parts s.tokens ≡ [] = rw (ne_eqb _ _ k) in finish_none p h ∙ ap (finish p) (sym l)
