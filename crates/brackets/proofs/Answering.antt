-- How readings that were made one after another answer for the whole.
use Rattle.std.proofs.Common.{◌≡◌, ℕ, ◌<◌, Bool, true, false, cond, List, length, IsErrAnd, Ok, Err, Result, sym, refl, ap, ◌∙◌, subst, add-zero}
use Rattle.std.proofs.lemmas.Result.{err_from_is_err_and}
use Rattle.parts.specs.declared.Part.{Part}
use Rattle.parts.specs.declared.Span.{Span}
use Rattle.reader.specs.Answers.{Answer, Answers}
use Rattle.reader.specs.Scenes.{Scene, past, past_one}
use Rattle.reader.specs.Tokens.{ahead, head, is_eof, last_after, last_end, next}
use Rattle.reader.specs.Sound.{sound}
use Rattle.reader.proofs.Taking.{last_any, past_both, sound_ahead}
use Rattle.token.specs.Spans.{span_of}
use Rattle.token.specs.declared.Token.{Token}
use Rattle.brackets.specs.Format.{part_of}
use Rattle.brackets.specs.Readings.{Answered, Reading, and_then, give, one, proceed, refuse, span_over, spanned, taking}

-- what advance ensures, as one equation
pub moved : (ts : List Token) (n : ℕ) {a : Answers} {ts' : List Token} {n' : ℕ} {a' : Answers} → ts' ≡ next ts → n' ≡ last_end ts n → a' ≡ a → ◌≡◌ {A = Scene} (record { tokens = ts'; last = n'; answers = a' }) (past_one (record { tokens = ts; last = n; answers = a }))
moved ts n p q r = λ i. record { tokens = p i; last = q i; answers = r i }

pub one_fits : (fits : ℕ → Bool) (s s' : Scene) (t : Token) → t ≡ head s.tokens → fits t.kind.code ≡ true → s' ≡ past_one s → Answered (one fits s.tokens) s (Ok t) s'
one_fits fits s s' t e f m =
    let h : fits (head s.tokens).kind.code ≡ true = ap (λ u. fits u.kind.code) (sym e) ∙ f in
    let a : ◌≡◌ {A = Answer Token} (record { result = Ok (head s.tokens); count = 1 }) (one fits s.tokens) = rw h in
    record { value = ap Ok e ∙ ap (λ x. x.result) a; after = m ∙ ap (λ x. past x.count s) a }

pub one_refused : (fits : ℕ → Bool) (s : Scene) (t : Token) → t ≡ head s.tokens → fits t.kind.code ≡ false → Answered (one fits s.tokens) s (Err (span_of t)) s
one_refused fits s t e f =
    let h : fits (head s.tokens).kind.code ≡ false = ap (λ u. fits u.kind.code) (sym e) ∙ f in
    let a : ◌≡◌ {A = Answer Token} (refuse s.tokens) (one fits s.tokens) = rw h in
    record { value = ap (λ u. Err (span_of u)) e ∙ ap (λ x. x.result) a; after = ap (λ x. past x.count s) a }

pub given : {F : Type 0} (x : F) (s : Scene) → Answered (give x s.tokens) s (Ok x) s
given x s = record { value = refl; after = refl }

pub given_as : {F : Type 0} {x : F} (s : Scene) {r : Result F Span} → r ≡ Ok x → Answered (give x s.tokens) s r s
given_as s e = record { value = e; after = refl }

-- tokens that were taken
pub took : (front : List Token → List Token) (s : Scene) {s' : Scene} → s' ≡ past (length (front s.tokens)) s → Answered (taking front s.tokens) s (Ok (front s.tokens)) s'
took front s h = record { value = refl; after = h }

module _ {F G : Type 0} (f : Reading F) (g : F → Reading G) where
  pub followed : {s s₁ s₂ : Scene} {x : F} {r : Result G Span} → Answered (f s.tokens) s (Ok x) s₁ → Answered (g x s₁.tokens) s₁ r s₂ → Answered (and_then f g s.tokens) s r s₂
  unfolding and_then
  followed {s} {s₁} {s₂} {x} {r} v w =
      let ts = s.tokens in
      let n = (f ts).count in
      let m = (g x (ahead n ts)).count in
      let e : proceed (Ok x) n (λ y. g y (ahead n ts)) ≡ and_then f g ts = ap (λ q. proceed q n (λ y. g y (ahead n ts))) v.value in
      record {
        value = w.value ∙ ap (λ z. (g x z.tokens).result) v.after ∙ ap (λ a. a.result) e;
        after = w.after ∙ (λ i. past (g x (v.after i).tokens).count (v.after i)) ∙ past_both n m s ∙ ap (λ a. past a.count s) e;
      }

  pub stopped : {s s₁ : Scene} {e : Span} → Answered (f s.tokens) s (Err e) s₁ → Answered (and_then f g s.tokens) s (Err e) s₁
  unfolding and_then
  stopped {s} {s₁} {e} v =
      let ts = s.tokens in
      let n = (f ts).count in
      let p : proceed (Err e) n (λ y. g y (ahead n ts)) ≡ and_then f g ts = ap (λ q. proceed q n (λ y. g y (ahead n ts))) v.value in
      record { value = ap (λ a. a.result) p; after = v.after ∙ ap (λ a. past a.count s) p }

module _ {F : Type 0} (f : Reading (Span → F)) where
  pub spans : {s s₁ : Scene} {x : Span → F} → Answered (f s.tokens) s (Ok x) s₁ → is_eof (head s.tokens) ≡ false → 0 < (f s.tokens).count → (t : Token) → t ≡ head s.tokens → (p : Span) → p ≡ record { start = t.start; end = s₁.last } → Answered (spanned f s.tokens) s (Ok (x p)) s₁
  unfolding spanned
  spans {s} {s₁} {x} v h k t e p q =
      let ts = s.tokens in
      let n = (f ts).count in
      let y : (Span → F) → Answer F = λ z. give (z (span_over n ts)) ts in
      let a : proceed (Ok x) n y ≡ spanned f ts = ap (λ r. proceed r n y) v.value in
      let l : s₁.last ≡ last_after n ts 0 = ap (λ z. z.last) v.after ∙ last_any n ts s.last 0 k h in
      let m : p ≡ span_over n ts = q ∙ (λ i. record { start = (e i).start; end = l i }) in
      record {
        value = ap (λ z. Ok (x z)) m ∙ ap (λ z. z.result) a;
        after = v.after ∙ ap (λ j. past j s) (sym (add-zero n)) ∙ ap (λ z. past z.count s) a;
      }

  pub unspanned : {s s₁ : Scene} {e : Span} → Answered (f s.tokens) s (Err e) s₁ → Answered (spanned f s.tokens) s (Err e) s₁
  unfolding spanned
  unspanned {s} {s₁} {e} v =
      let ts = s.tokens in
      let n = (f ts).count in
      let y : (Span → F) → Answer F = λ z. give (z (span_over n ts)) ts in
      let a : proceed (Err e) n y ≡ spanned f ts = ap (λ r. proceed r n y) v.value in
      record { value = ap (λ z. z.result) a; after = v.after ∙ ap (λ z. past z.count s) a }

-- the exit of a `?`
pub refused_as : {F : Type 0} {a : Answer F} {s s' : Scene} {e : Span} (r : Result F Span) → IsErrAnd r (λ y. y ≡ e) → Answered a s (Err e) s' → Answered a s r s'
refused_as r h w = let p = err_from_is_err_and r h in record { value = p.1 ∙ ap Err p.2 ∙ w.value; after = w.after }

-- one of two answers, by a test
module _ {F : Type 0} (a a' : Answer F) {s s' : Scene} {r : Result F Span} where
  pub if_so : (b : Bool) → b ≡ true → Answered a s r s' → Answered (cond b a a') s r s'
  if_so b h w = rw h w

  pub if_not : (b : Bool) → b ≡ false → Answered a' s r s' → Answered (cond b a a') s r s'
  if_not b h w = rw h w

-- what is sound stays so
pub keeps : {F : Type 0} {a : Answer F} {s s' : Scene} {r : Result F Span} → Answered a s r s' → sound s.tokens ≡ true → sound s'.tokens ≡ true
keeps {a = a} {s = s} w h = subst (λ (ts : List Token). sound ts ≡ true) (ap (λ z. z.tokens) (sym w.after)) (sound_ahead a.count s.tokens h)

pub as_part : {p q : Part} {s s' : Scene} {r : Result Span Span} → q ≡ p → Answered (part_of p s.tokens) s r s' → Answered (part_of q s.tokens) s r s'
as_part {s = s} e w =
    record { value = w.value ∙ ap (λ x. (part_of x s.tokens).result) (sym e); after = w.after ∙ ap (λ x. past (part_of x s.tokens).count s) (sym e) }

pub answered_as : {F : Type 0} {a : Answer F} {s s' : Scene} {q r : Result F Span} → r ≡ q → Answered a s q s' → Answered a s r s'
answered_as e w = record { value = e ∙ w.value; after = w.after }
