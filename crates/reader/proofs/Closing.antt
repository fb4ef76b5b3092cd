-- Lists that end at their one Eof, and lists that are sound: what one token taken leaves.
use Rattle.std.proofs.Common.{◌≡◌, ◌<◌, ◌≤◌, Bool, true, false, ◌&&◌, ltb, leb, List, [], ◌∷◌, length, sym, refl, arith, le-leb}
use borrow.Author.Tests.{true-ltb, true-leb}
use Rattle.std.proofs.lemmas.Bool.Decides.{nat_tests}
use Rattle.token.specs.Kinds.{modifier_of}
use Rattle.token.specs.declared.Token.{Token}
use Rattle.reader.specs.Sound.{all_known, all_placed, before, known, sized, sound, spelled}
use Rattle.reader.specs.Tokens.{closed, ended, head, is_eof, next}

pub both : (a b : Bool) → (a && b) ≡ true → (a ≡ true) × (b ≡ true)
both true b h = (refl, h)
both false b h = grind arith

pub closed_ended : (xs : List Token) → ended (closed xs) ≡ true
closed_ended [] = refl
closed_ended (t ∷ ts) = grind (arith, nat_tests, closed_ended ts)

pub ended_closed : (xs : List Token) → ended xs ≡ true → closed xs ≡ xs
ended_closed [] h = grind arith
ended_closed (t ∷ []) h = grind (arith, nat_tests)
ended_closed (t ∷ (u ∷ us)) h = let ih = ended_closed (u ∷ us) in grind (arith, nat_tests)

pub next_ended : (xs : List Token) → ended xs ≡ true → ended (next xs) ≡ true
next_ended [] h = h
next_ended (t ∷ ts) h = grind (arith, nat_tests)

pub length_next : (ts : List Token) → length (next ts) ≤ length ts
length_next [] = omega arith
length_next (t ∷ ts) = grind (arith, nat_tests)

pub next_falls : (ts : List Token) → ((head ts).kind.code ≡ 0 → ⊥) → length (next ts) < length ts
next_falls [] h = grind arith
next_falls (t ∷ ts) h = grind (arith, nat_tests)

-- the three questions of a sound list
pub record Passed (ts : List Token) : Type 0 where
  pub knows : all_known ts ≡ true
  pub ends : ended ts ≡ true
  pub places : all_placed ts ≡ true

pub passed : (ts : List Token) → sound ts ≡ true → Passed ts
passed ts h =
    let p = both (all_known ts && ended ts) (all_placed ts) h in
    let q = both (all_known ts) (ended ts) p.0 in
    record { knows = q.0; ends = q.1; places = p.1 }

pub passing : (ts : List Token) → Passed ts → sound ts ≡ true
passing ts p = rw (p.knows, p.ends, p.places)

pub sound_ended : (ts : List Token) → sound ts ≡ true → ended ts ≡ true
sound_ended ts h = (passed ts h).ends

-- a token before others, or Eof by itself
pub sound_cons : (t : Token) (ts : List Token) → known t ≡ true → is_eof t ≡ false → sized t ≡ true → t.end ≤ (head ts).start → sound ts ≡ true → sound (t ∷ ts) ≡ true
sound_cons t [] k e s b h = grind arith
sound_cons t (u ∷ us) k e s b h =
    let p = passed (u ∷ us) h in
    let l : leb t.end u.start ≡ true = le-leb _ _ b in
    let f : before t (u ∷ us) ≡ true = rw (e, l) in
    passing (t ∷ (u ∷ us)) (record { knows = rw (k, p.knows); ends = rw e p.ends; places = rw (s, f, p.places) })

-- what is known of the first of several sound tokens
pub record First (t : Token) (ts : List Token) : Type 0 where
  pub knows : known t ≡ true
  pub more : is_eof t ≡ false
  pub is_sized : sized t ≡ true
  pub some : t.start < t.end
  pub long : spelled (modifier_of t.kind.code) t ≡ true
  pub within : t.end ≤ (head ts).start
  pub rest : sound ts ≡ true

pub sound_first : (t u : Token) (us : List Token) → sound (t ∷ (u ∷ us)) ≡ true → First t (u ∷ us)
sound_first t u us h =
    let ts : List Token = u ∷ us in
    let p = passed (t ∷ ts) h in
    let k = both (known t) (all_known ts) p.knows in
    let e : is_eof t ≡ false = (let x = p.ends in grind (arith, nat_tests)) in
    let q = both (sized t && before t ts) (all_placed ts) p.places in
    let r = both (sized t) (before t ts) q.0 in
    let s : (ltb t.start t.end && spelled (modifier_of t.kind.code) t) ≡ true = rw e at r.0 in
    let d = both (ltb t.start t.end) _ s in
    let b : leb t.end u.start ≡ true = rw e at r.1 in
    let f : ended ts ≡ true = rw e at p.ends in
    record {
      knows = k.0;
      more = e;
      is_sized = r.0;
      some = true-ltb _ _ (sym d.0);
      long = d.1;
      within = true-leb _ _ (sym b);
      rest = passing ts (record { knows = k.1; ends = f; places = q.1 });
    }

pub sound_last : (t : Token) → sound (t ∷ []) ≡ true → is_eof t ≡ true
sound_last t h = let p = (passed (t ∷ []) h).ends in grind (arith, nat_tests)

-- a current token before Eof
pub sound_current : (ts : List Token) → sound ts ≡ true → is_eof (head ts) ≡ false → First (head ts) (next ts)
sound_current [] h e = let z : ◌≡◌ {A = Bool} true false = cc in grind arith
sound_current (t ∷ []) h e = let z = sound_last t h in grind arith
sound_current (t ∷ (u ∷ us)) h e = rw e (sound_first t u us h)

-- what is left of sound tokens is sound
pub next_sound : (ts : List Token) → sound ts ≡ true → sound (next ts) ≡ true
next_sound [] h = h
next_sound (t ∷ []) h = let e = sound_last t h in rw e h
next_sound (t ∷ (u ∷ us)) h = let f = sound_first t u us h in rw f.more f.rest
