-- The kept keywords are the longest run at the beginning of sound tokens.
use Rattle.std.proofs.Common.{◌≡◌, ℕ, zero, suc, ◌+◌, ◌^◌, ◌<◌, Bool, true, false, cond, ◌&&◌, List, [], ◌∷◌, ◌++◌, length, take, Some, None, Option, sym, refl, ap, ◌∙◌, subst, append_assoc, append-nil, arith}
use Rattle.std.proofs.lemmas.Bool.{both_ways, eqb-true, lt-ltb}
use Rattle.std.proofs.lemmas.Bool.Decides.{nat_tests}
use Rattle.kinds.specs.Modifiers.{word_of}
use Rattle.kinds.specs.declared.modifier_kind.ModifierKind.{ModifierKind}
use Rattle.kinds.specs.declared.modifier_kind.ModifierKind.TheVariants.{Static}
use Rattle.modifiers.proofs.Laws.{above_added, above_more}
use Rattle.modifiers.specs.Entries.{above, added, end_of, fits, keeps, may_follow, word_at}
use Rattle.modifiers.specs.declared.modifier.Modifier.{Modifier}
use Rattle.reader.proofs.Closing.{First, next_sound, sound_current}
use Rattle.reader.specs.Sound.{sound, spelled}
use Rattle.reader.specs.Tokens.{ahead, head, is_eof, next}
use Rattle.token.specs.Kinds.{modifier_of}
use Rattle.token.specs.declared.Token.{Token}
use Rattle.keywords.proofs.Cuts.{keeps_lasts, lasts_push}
use Rattle.keywords.specs.Laws.{IsModifier, LongestRun, keyword_at, kind_at, token_at}
use Rattle.keywords.specs.Run.{eligible, kept_from, keyword_if, lasts}
use Rattle.keywords.specs.declared.ListSettings.{ListSettings}

-- a keyword is not Eof, so that the token after it is the next one of the list
not_eof : (t : Token) (k : ModifierKind) → modifier_of t.kind.code ≡ Some k → is_eof t ≡ false
not_eof t k e = by (is_eof t) refl
  where
    by : (b : Bool) → is_eof t ≡ b → b ≡ false
    by true f =
        let z : t.kind.code ≡ 0 = grind (arith, nat_tests) in
        let n : modifier_of t.kind.code ≡ None = ap modifier_of z in
        let y : ◌≡◌ {A = ℕ} 0 1 = cc in absurd (omega arith)
    by false f = refl

next_plain : (t : Token) (ts : List Token) → is_eof t ≡ false → next (t ∷ ts) ≡ ts
next_plain t ts h = rw h

-- the start of the next token is above those of a keyword and of those before it
next_above : (ms : List Modifier) (m : Modifier) (b : ℕ) → above m.start ms ≡ true → m.start < b → above b (added ms m) ≡ true
next_above ms m b h l = above_added b ms m (above_more m.start b ms h (omega arith)) l

-- what is to be shown of the tokens after some keywords
record RunAfter (s : ListSettings) (before : List Modifier) (ts : List Token) (kept : List Modifier) : Type 0 where
  modifiers : (i : ℕ) → i < length kept → IsModifier s ts (before ++ take i kept) i (kind_at kept i)
  starts : (i : ℕ) → i < length kept → (keyword_at kept i).start ≡ (token_at ts i).start
  ends : (k : ModifierKind) → IsModifier s ts (before ++ kept) (length kept) k → fits (word_at k (token_at ts (length kept)).start) ≡ false

-- no keyword is here
run_none : (s : ListSettings) (before : List Modifier) (ts : List Token) → ((k : ModifierKind) → IsModifier s ts before 0 k → fits (word_at k (head ts).start) ≡ false) → RunAfter s before ts []
run_none s before ts h =
    record {
      modifiers = λ i l. absurd (omega arith);
      starts = λ i l. absurd (omega arith);
      ends = λ k x. h k (subst (λ (ms : List Modifier). IsModifier s ts ms 0 k) (append-nil before) x);
    }

-- one keyword is, and then others
run_more : (s : ListSettings) (before : List Modifier) (t : Token) (ts : List Token) (k : ModifierKind) (kept : List Modifier) → next (t ∷ ts) ≡ ts → modifier_of t.kind.code ≡ Some k → eligible s (keeps Static before) k (head ts) ≡ true → RunAfter s (before ++ (word_at k t.start ∷ [])) ts kept → RunAfter s before (t ∷ ts) (word_at k t.start ∷ kept)
run_more s before t ts k kept plain is fit x =
    record {
      modifiers = each;
      starts = from;
      ends = λ j y. subst (λ (us : List Token). fits (word_at j (token_at us (length kept)).start) ≡ false) (sym plain) (x.ends j (moved j (before ++ (word_at k t.start ∷ kept)) _ (length kept) (append_assoc before (word_at k t.start ∷ []) kept) y));
    }
  where
    moved : (j : ModifierKind) (ms ms' : List Modifier) (i : ℕ) → ms' ≡ ms → IsModifier s (t ∷ ts) ms (suc i) j → IsModifier s ts ms' i j
    moved j ms ms' i e y =
        record {
          keyword = ap (λ us. modifier_of (token_at us i).kind.code) (sym plain) ∙ y.keyword;
          fit = ap (λ l. eligible s (keeps Static l) j (token_at ts (suc i))) e ∙ ap (λ us. eligible s (keeps Static ms) j (token_at us (suc i))) (sym plain) ∙ y.fit;
        }

    back : (j : ModifierKind) (ms ms' : List Modifier) (i : ℕ) → ms' ≡ ms → IsModifier s ts ms' i j → IsModifier s (t ∷ ts) ms (suc i) j
    back j ms ms' i e y =
        record {
          keyword = ap (λ us. modifier_of (token_at us i).kind.code) plain ∙ y.keyword;
          fit = ap (λ us. eligible s (keeps Static ms) j (token_at us (suc i))) plain ∙ sym (ap (λ l. eligible s (keeps Static l) j (token_at ts (suc i))) e) ∙ y.fit;
        }

    each : (i : ℕ) → i < length (word_at k t.start ∷ kept) → IsModifier s (t ∷ ts) (before ++ take i (word_at k t.start ∷ kept)) i (kind_at (word_at k t.start ∷ kept) i)
    each zero l =
        record {
          keyword = is;
          fit = ap (λ us. eligible s (keeps Static (before ++ [])) k (head us)) plain ∙ ap (λ l. eligible s (keeps Static l) k (head ts)) (append-nil before) ∙ fit;
        }
    each (suc i) l = back (kind_at kept i) _ _ i (append_assoc before (word_at k t.start ∷ []) (take i kept)) (x.modifiers i (omega arith))

    from : (i : ℕ) → i < length (word_at k t.start ∷ kept) → (keyword_at (word_at k t.start ∷ kept) i).start ≡ (token_at (t ∷ ts) i).start
    from zero l = refl
    from (suc i) l = x.starts i (omega arith) ∙ sym (ap (λ us. (token_at us i).start) plain)

run_after : (s : ListSettings) (before : List Modifier) (ts : List Token) → sound ts ≡ true → above (head ts).start (lasts before) ≡ true → RunAfter s before ts (kept_from s (lasts before) ts)
run_after s before [] h a = run_none s before [] (λ k x. let z : ◌≡◌ {A = ℕ} 0 1 = cc in absurd (omega arith))
run_after s before (t ∷ ts) h a = by (modifier_of t.kind.code) refl (λ k. run_after s (before ++ (word_at k t.start ∷ [])) ts)
  where
    From : Option Modifier → Type 0
    From o = RunAfter s before (t ∷ ts) (elim o [ None ↦ [] | Some m ↦ m ∷ kept_from s (added (lasts before) m) ts ])

    More : ModifierKind → Type 0
    More k = sound ts ≡ true → above (head ts).start (lasts (before ++ (word_at k t.start ∷ []))) ≡ true → RunAfter s (before ++ (word_at k t.start ∷ [])) ts (kept_from s (lasts (before ++ (word_at k t.start ∷ []))) ts)

    by : (o : Option ModifierKind) → modifier_of t.kind.code ≡ o → ((k : ModifierKind) → More k) → From (keyword_if s (lasts before) o t (head ts))
    by None e more = run_none s before (t ∷ ts) (λ k x. let y = x.keyword in let z : ◌≡◌ {A = ℕ} 0 1 = cc in absurd (omega arith))
    by (Some k) e more = is (eligible s (keeps Static (lasts before)) k (head ts)) refl (fits (word_at k t.start)) refl
      where
        plain : next (t ∷ ts) ≡ ts
        plain = next_plain t ts (not_eof t k e)

        fit_here : eligible s (keeps Static before) k (head ts) ≡ eligible s (keeps Static (lasts before)) k (head ts)
        fit_here = ap (λ b. eligible s b k (head ts)) (sym (keeps_lasts Static before))

        first : First t ts
        first = subst (λ (us : List Token). First t us) plain (sound_current (t ∷ ts) h (not_eof t k e))

        follows : may_follow (lasts before) (word_at k t.start) ≡ fits (word_at k t.start)
        follows = ap (λ b. b && fits (word_at k t.start)) a

        is : (b : Bool) → eligible s (keeps Static (lasts before)) k (head ts) ≡ b → (c : Bool) → fits (word_at k t.start) ≡ c → From (cond b (cond (may_follow (lasts before) (word_at k t.start)) (Some (word_at k t.start)) None) None)
        is false f c g =
            run_none s before (t ∷ ts)
            (λ j x.
            let q : j ≡ k = (let y = x.keyword in cc) in
            let v = sym x.fit ∙ ap (λ i. eligible s (keeps Static before) i (head (next (t ∷ ts)))) q ∙ ap (λ us. eligible s (keeps Static before) k (head us)) plain ∙ fit_here ∙ f in
            let z : ◌≡◌ {A = ℕ} 0 1 = cc in absurd (omega arith))
        is true f false g =
            subst (λ (c : Bool). From (cond c (Some (word_at k t.start)) None)) (sym (follows ∙ g))
            (run_none s before (t ∷ ts) (λ j x. let q : j ≡ k = (let y = x.keyword in cc) in ap (λ i. fits (word_at i t.start)) q ∙ g))
        is true f true g =
            subst (λ (c : Bool). From (cond c (Some (word_at k t.start)) None)) (sym (follows ∙ g))
            (run_more s before t ts k (kept_from s (added (lasts before) (word_at k t.start)) ts) plain e (fit_here ∙ f)
            (subst (λ (ms : List Modifier). RunAfter s (before ++ (word_at k t.start ∷ [])) ts (kept_from s ms ts)) (lasts_push [] before (word_at k t.start))
            (more k first.rest
            (rw (lasts_push [] before (word_at k t.start)) (next_above (lasts before) (word_at k t.start) (head ts).start a (let l = first.some in let m = first.within in omega arith))))))

-- a keyword of sound tokens ends where its token does
spelled_end : (t : Token) (k : ModifierKind) → modifier_of t.kind.code ≡ Some k → spelled (modifier_of t.kind.code) t ≡ true → t.end ≡ end_of (word_at k t.start)
spelled_end t k e h = eqb-true t.end (t.start + length (word_of k)) (sym (ap (λ o. spelled o t) e) ∙ h)

ahead_sound : (n : ℕ) (ts : List Token) → sound ts ≡ true → sound (ahead n ts) ≡ true
ahead_sound zero ts h = h
ahead_sound (suc n) ts h = ahead_sound n (next ts) (next_sound ts h)

-- the token after the kept ones ends within 32 bits, as every token does that a reader gives
pub longest_run : (s : ListSettings) (ts : List Token) → sound ts ≡ true → (token_at ts (length (kept_from s [] ts))).end < 2 ^ 32 → LongestRun s ts (kept_from s [] ts)
longest_run s ts h l =
    let x = run_after s [] ts h refl in
    record { modifiers = x.modifiers; starts = x.starts; ends = λ k y. never k y (x.ends k y) }
  where
    kept : List Modifier
    kept = kept_from s [] ts

    never : (k : ModifierKind) → IsModifier s ts kept (length kept) k → fits (word_at k (token_at ts (length kept)).start) ≡ false → ⊥
    never k y f =
        let rest = ahead (length kept) ts in
        let e = not_eof (head rest) k y.keyword in
        let p = sound_current rest (ahead_sound (length kept) ts h) e in
        let q = spelled_end (head rest) k y.keyword p.long in
        both_ways (fits (word_at k (head rest).start)) f (lt-ltb (end_of (word_at k (head rest).start)) (2 ^ 32) (subst (λ (n : ℕ). n < 2 ^ 32) q l))
