-- Without Skip, a list still ends at its one Eof, and a sound one stays sound.
use Rattle.std.proofs.Common.{◌≡◌, ◌≤◌, Bool, true, false, cond, ◌&&◌, eqb, ltb, List, [], ◌∷◌, Some, None, Option, refl, ap, ◌∙◌, arith}
use Rattle.std.proofs.lemmas.Bool.Decides.{nat_tests}
use Rattle.kinds.specs.declared.modifier_kind.ModifierKind.{ModifierKind}
use Rattle.reader.proofs.Closing.{sound_cons, sound_first, sound_last}
use Rattle.reader.specs.Sound.{sized, sound, spelled}
use Rattle.reader.specs.Tokens.{ended, head, is_eof, is_nil}
use Rattle.token.specs.Kinds.{modifier_of}
use Rattle.token.specs.declared.Token.{Token}
use Rattle.trivia.specs.Kept.{broken, is_skip, without_skips}

eof_kept : (t : Token) → is_eof t ≡ true → is_skip t ≡ false
eof_kept t h = grind (arith, nat_tests)

nil_stripped : (b : Bool) (ts : List Token) → is_nil ts ≡ true → without_skips b ts ≡ []
nil_stripped b [] h = refl
nil_stripped b (t ∷ ts) h = grind arith

pub stripped_ended : (b : Bool) (ts : List Token) → ended ts ≡ true → ended (without_skips b ts) ≡ true
stripped_ended b [] h = h
stripped_ended b (t ∷ ts) h = by (is_eof t) (is_skip t) refl refl (λ c. stripped_ended c ts)
  where
    by : (e s : Bool) → is_eof t ≡ e → is_skip t ≡ s → ((c : Bool) → ended ts ≡ true → ended (without_skips c ts) ≡ true) → ended (without_skips b (t ∷ ts)) ≡ true
    by true s p q ih =
        let k = eof_kept t p in
        let n : is_nil ts ≡ true = rw p at h in
        rw (k, p, nil_stripped false ts n)
    by false true p q ih = let r : ended ts ≡ true = rw p at h in rw q (ih (cond b true t.line_break) r)
    by false false p q ih = let r : ended ts ≡ true = rw p at h in rw (q, p) (ih false r)

-- a line break before a token changes nothing of its size
sized_broken : (b : Bool) (t : Token) → sized (broken b t) ≡ sized t
sized_broken b t = ap (λ x. cond (is_eof t) (eqb t.start t.end) (ltb t.start t.end && x)) (word (modifier_of t.kind.code))
  where
    word : (m : Option ModifierKind) → spelled m (broken b t) ≡ spelled m t
    word None = refl
    word (Some m) = refl

-- the tokens that are kept begin no earlier, and are sound
stripped_both : (b : Bool) (ts : List Token) → sound ts ≡ true → ((head ts).start ≤ (head (without_skips b ts)).start) × (sound (without_skips b ts) ≡ true)
stripped_both b [] h = grind arith
stripped_both b (t ∷ []) h =
    let e = eof_kept t (sound_last t h) in
    let z = sized_broken b t in
    rw e (omega arith, rw z h)
stripped_both b (t ∷ (u ∷ us)) h = ways (is_skip t) refl (λ c. stripped_both c (u ∷ us) (sound_first t u us h).rest)
  where
    ways : (s : Bool) → is_skip t ≡ s → ((c : Bool) → (u.start ≤ (head (without_skips c (u ∷ us))).start) × (sound (without_skips c (u ∷ us)) ≡ true)) → (t.start ≤ (head (without_skips b (t ∷ (u ∷ us)))).start) × (sound (without_skips b (t ∷ (u ∷ us))) ≡ true)
    ways true e ih =
        let f = sound_first t u us h in
        let r = ih (cond b true t.line_break) in
        rw e (omega (arith, f.some, f.within, r.0), r.1)
    ways false e ih =
        let f = sound_first t u us h in
        let r = ih false in
        rw e (omega arith, sound_cons (broken b t) (without_skips false (u ∷ us)) f.knows f.more (sized_broken b t ∙ f.is_sized) (omega (arith, f.within, r.0)) r.1)

pub stripped_sound : (ts : List Token) → sound ts ≡ true → sound (without_skips false ts) ≡ true
stripped_sound ts h = (stripped_both false ts h).1
