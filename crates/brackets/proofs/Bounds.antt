-- How many tokens a reading takes: those before Eof alone, and with facts one at least.
use Rattle.std.proofs.Common.{◌≡◌, ℕ, ◌<◌, Bool, true, false, cond, eqb, List, [], ◌∷◌, length, is_ok, Ok, Err, Result, sym, refl, ap, ◌∙◌, arith}
use Rattle.parts.specs.declared.Span.{Span}
use Rattle.reader.specs.Scenes.{Scene}
use Rattle.reader.specs.Tokens.{ahead, ended, head, is_eof}
use Rattle.reader.proofs.Taking.{ended_ahead, ended_some, length_ahead, taken_some}
use Rattle.token.specs.Kinds.{k_eof}
use Rattle.token.specs.declared.Token.{Token}
use Rattle.brackets.specs.Depth.{deeper, up_to}
use Rattle.brackets.specs.Readings.{Answered, Reading, and_then, give, one, proceed, span_over, spanned}
use Rattle.brackets.proofs.Answering.{spans}

pub record Within {F : Type 0} (f : Reading F) : Type 0 where
  pub bound : (ts : List Token) → ended ts ≡ true → (f ts).count < length ts

pub record TakesSome {F : Type 0} (f : Reading F) : Type 0 where
  pub some : (ts : List Token) → is_ok (f ts).result ≡ true → 0 < (f ts).count

pub within_give : {F : Type 0} (x : F) → Within (give x)
within_give x = record { bound = ended_some }

pub more_than_one : (ts : List Token) → ended ts ≡ true → is_eof (head ts) ≡ false → 1 < length ts
more_than_one [] h e = grind arith
more_than_one (t ∷ []) h e = grind arith
more_than_one (t ∷ (u ∷ us)) h e = omega arith

-- a kind that fits is not Eof's
pub within_one : (fits : ℕ → Bool) → ((k : ℕ) → fits k ≡ true → eqb k k_eof ≡ false) → Within (one fits)
within_one fits n = record { bound = λ ts h. by ts h (fits (head ts).kind.code) refl }
  where
    by : (ts : List Token) → ended ts ≡ true → (b : Bool) → fits (head ts).kind.code ≡ b → (one fits ts).count < length ts
    by ts h true e = rw e (more_than_one ts h (n (head ts).kind.code e))
    by ts h false e = rw e (ended_some ts h)

pub takes_one : (fits : ℕ → Bool) → TakesSome (one fits)
takes_one fits = record { some = λ ts. by ts (fits (head ts).kind.code) refl }
  where
    by : (ts : List Token) (b : Bool) → fits (head ts).kind.code ≡ b → is_ok (one fits ts).result ≡ true → 0 < (one fits ts).count
    by ts true e h = rw e (omega arith)
    by ts false e h = let z : ◌≡◌ {A = Bool} false true = rw e at h in grind arith

-- Eof stops
pub within_up_to : (stops : ℕ → Token → Bool) → ((d : ℕ) (t : Token) → is_eof t ≡ true → stops d t ≡ true) → (d : ℕ) (ts : List Token) → ended ts ≡ true → length (up_to stops d ts) < length ts
within_up_to stops n d [] h = grind arith
within_up_to stops n d (t ∷ ts) h = by (is_eof t) (stops d t) refl refl (λ r. within_up_to stops n (deeper d t.kind.code) ts r)
  where
    by : (e b : Bool) → is_eof t ≡ e → stops d t ≡ b → (ended ts ≡ true → length (up_to stops (deeper d t.kind.code) ts) < length ts) → length (up_to stops d (t ∷ ts)) < length (t ∷ ts)
    by e true p q ih = rw q (omega arith)
    by true false p q ih = let z : ◌≡◌ {A = Bool} false true = sym q ∙ n d t p in grind arith
    by false false p q ih = let r : ended ts ≡ true = rw p at h in rw q (omega (arith, ih r))

module _ {F G : Type 0} {f : Reading F} {g : F → Reading G} where
  pub within_then : Within f → ((x : F) → Within (g x)) → Within (and_then f g)
  unfolding and_then
  within_then a b = record { bound = λ ts h. by ts h (f ts).result }
    where
      by : (ts : List Token) → ended ts ≡ true → (r : Result F Span) → (proceed r (f ts).count (λ x. g x (ahead (f ts).count ts))).count < length ts
      by ts h (Ok x) =
          let n = (f ts).count in
          omega (arith, a.bound ts h, length_ahead n ts h (a.bound ts h), (b x).bound (ahead n ts) (ended_ahead n ts h))
      by ts h (Err e) = a.bound ts h

module _ {F G : Type 0} {f : Reading F} (g : F → Reading G) where
  pub takes_first : TakesSome f → TakesSome (and_then f g)
  unfolding and_then
  takes_first a = record { some = λ ts. by ts (f ts).result refl }
    where
      by : (ts : List Token) (r : Result F Span) → (f ts).result ≡ r → is_ok (proceed r (f ts).count (λ x. g x (ahead (f ts).count ts))).result ≡ true → 0 < (proceed r (f ts).count (λ x. g x (ahead (f ts).count ts))).count
      by ts (Ok x) e h = omega (arith, a.some ts (ap is_ok e))
      by ts (Err e) p h = grind arith

module _ {F G : Type 0} (f : Reading F) {g : F → Reading G} where
  pub takes_later : ((x : F) → TakesSome (g x)) → TakesSome (and_then f g)
  unfolding and_then
  takes_later b = record { some = λ ts. by ts (f ts).result }
    where
      by : (ts : List Token) (r : Result F Span) → is_ok (proceed r (f ts).count (λ x. g x (ahead (f ts).count ts))).result ≡ true → 0 < (proceed r (f ts).count (λ x. g x (ahead (f ts).count ts))).count
      by ts (Ok x) h = omega (arith, (b x).some (ahead (f ts).count ts) h)
      by ts (Err e) h = grind arith

pub within_if : {F : Type 0} {f g : Reading F} (test : List Token → Bool) → Within f → Within g → Within (λ ts. cond (test ts) (f ts) (g ts))
within_if {f = f} {g = g} test a b = record { bound = λ ts h. by ts h (test ts) }
  where
    by : (ts : List Token) → ended ts ≡ true → (c : Bool) → (cond c (f ts) (g ts)).count < length ts
    by ts h true = a.bound ts h
    by ts h false = b.bound ts h

module _ {F : Type 0} {f : Reading (Span → F)} where
  pub within_spanned : Within f → Within (spanned f)
  unfolding spanned
  within_spanned a = record { bound = λ ts h. by ts h (f ts).result }
    where
      by : (ts : List Token) → ended ts ≡ true → (r : Result (Span → F) Span) → (proceed r (f ts).count (λ x. give (x (span_over (f ts).count ts)) ts)).count < length ts
      by ts h (Ok x) = omega (arith, a.bound ts h)
      by ts h (Err e) = a.bound ts h

  pub takes_spanned : TakesSome f → TakesSome (spanned f)
  unfolding spanned
  takes_spanned a = record { some = λ ts. by ts (f ts).result refl }
    where
      by : (ts : List Token) (r : Result (Span → F) Span) → (f ts).result ≡ r → is_ok (proceed r (f ts).count (λ x. give (x (span_over (f ts).count ts)) ts)).result ≡ true → 0 < (proceed r (f ts).count (λ x. give (x (span_over (f ts).count ts)) ts)).count
      by ts (Ok x) e h = omega (arith, a.some ts (ap is_ok e))
      by ts (Err e) p h = grind arith

-- facts that tell the span, of tokens that were taken from a list that ends at its Eof
pub told_span : {F : Type 0} (f : Reading (Span → F)) → Within f → TakesSome f → {s s₁ : Scene} {x : Span → F} → Answered (f s.tokens) s (Ok x) s₁ → ended s.tokens ≡ true → (t : Token) → t ≡ head s.tokens → (p : Span) → p ≡ record { start = t.start; end = s₁.last } → Answered (spanned f s.tokens) s (Ok (x p)) s₁
told_span f a b {s} v h t e p q =
    let k : 0 < (f s.tokens).count = b.some s.tokens (ap is_ok (sym v.value)) in
    spans f v (taken_some (f s.tokens).count s.tokens h k (a.bound s.tokens h)) k t e p q
