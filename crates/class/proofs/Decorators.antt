-- Decorators, one at a time.
use Rattle.std.proofs.Common.{◌≡◌, ℕ, zero, suc, ◌+◌, ◌<◌, true, false, List, [], ◌∷◌, ◌++◌, length, get_or, take, Ok, Err, Result, sym, refl, ap, ◌∙◌, subst, arith}
use Rattle.std.proofs.lemmas.List.{take_more}
use Rattle.dialogue.proofs.Sequels.{then_spoke, then_stopped}
use Rattle.dialogue.proofs.Steps.{done_spoke, look_spoke, stop_spoke, test_false, test_true}
use Rattle.dialogue.specs.Spoken.{Spoke}
use Rattle.dialogue.specs.declared.Fatal.{Fatal}
use Rattle.dialogue.specs.declared.Fatal.TheVariants.{TooManyDecorators}
use Rattle.list.proofs.Noting.{noted_then}
use Rattle.list.specs.Lists.{Noted}
use Rattle.list.specs.declared.list.List.{List as Held}
use Rattle.parts.specs.declared.Part.TheVariants.{Decorator}
use Rattle.parts.specs.declared.Span.{Span}
use Rattle.reader.specs.Scenes.{Scene}
use Rattle.reader.specs.Tokens.{head}
use Rattle.reports.specs.Reports.{at_place}
use Rattle.reports.specs.declared.Report.{Report}
use Rattle.token.specs.Kinds.{k_at}
use Rattle.token.specs.Spans.{span_of}
use Rattle.token.specs.declared.Token.{Token}
use Rattle.class.specs.Decorating.{decorator_reports}
use Rattle.class.specs.Taking.{decorators_d, is_kind, part_d}

module _ (b : ℕ) (ds : List Span) {s : Scene} {l : Held Report} where
  -- nothing is taken yet
  pub decorators_begun : (n : ℕ) {s' : Scene} {l' : Held Report} {r : Result (List Span) Fatal} → ds ≡ [] → length ds + n ≡ 16 → Spoke (decorators_d b n ds) s s' l l' r → Spoke (decorators_d b 16 []) s s' l l' r
  decorators_begun n {s'} {l'} {r} e h x =
      let f = ap length e in
      let z : n ≡ 16 = omega (arith, f, h) in
      subst (λ (k : ℕ). Spoke (decorators_d b k []) s s' l l' r) z (subst (λ (k : List Span). Spoke (decorators_d b n k) s s' l l' r) e x)

module _ (b : ℕ) (ds : List Span) {t : Token} {s : Scene} {l : Held Report} where
  pub decorators_none : (n : ℕ) → t ≡ head s.tokens → is_kind k_at t.kind.code ≡ false → Spoke (decorators_d b n ds) s s l l (Ok ds)
  unfolding decorators_d
  decorators_none zero e h = look_spoke _ e (test_false _ _ _ h (done_spoke ds refl))
  decorators_none (suc n) e h = look_spoke _ e (test_false _ _ _ h (done_spoke ds refl))

  pub decorators_full : {l' : Held Report} {q : Report} → t ≡ head s.tokens → is_kind k_at t.kind.code ≡ true → q ≡ at_place 52 (span_of t) → Noted l l' (q ∷ []) → Spoke (decorators_d b zero ds) s s l l' (Err TooManyDecorators)
  unfolding decorators_d
  decorators_full e h q x = look_spoke _ e (test_true _ _ _ h (stop_spoke TooManyDecorators _ refl q x))

  pub decorators_refused : (n : ℕ) {s' : Scene} {l' : Held Report} {f : Fatal} → t ≡ head s.tokens → is_kind k_at t.kind.code ≡ true → Spoke (part_d Decorator b) s s' l l' (Err f) → Spoke (decorators_d b (suc n) ds) s s' l l' (Err f)
  unfolding decorators_d
  decorators_refused n e h x = look_spoke _ e (test_true _ _ _ h (then_stopped _ (part_d Decorator b) x))

  more : (n : ℕ) {s' : Scene} {l' : Held Report} {d : Span} {s₁ : Scene} {l₁ : Held Report} {r : Result (List Span) Fatal} → t ≡ head s.tokens → is_kind k_at t.kind.code ≡ true → Spoke (part_d Decorator b) s s₁ l l₁ (Ok d) → Spoke (decorators_d b n (ds ++ (d ∷ []))) s₁ s' l₁ l' r → Spoke (decorators_d b (suc n) ds) s s' l l' r
  unfolding decorators_d
  more n e h x y = look_spoke _ e (test_true _ _ _ h (then_spoke _ (part_d Decorator b) x y))

  pub decorators_more : (n : ℕ) {s' : Scene} {l' : Held Report} {d : Span} {ds₁ : List Span} {s₁ : Scene} {l₁ : Held Report} {r : Result (List Span) Fatal} → t ≡ head s.tokens → is_kind k_at t.kind.code ≡ true → Spoke (part_d Decorator b) s s₁ l l₁ (Ok d) → ds₁ ≡ ds ++ (d ∷ []) → Spoke (decorators_d b n ds₁) s₁ s' l₁ l' r → Spoke (decorators_d b (suc n) ds) s s' l l' r
  decorators_more n {s'} {l'} {d} {ds₁} {s₁} {l₁} {r} e h x p y = more n e h x (subst (λ (k : List Span). Spoke (decorators_d b n k) s₁ s' l₁ l' r) p y)

module _ (rule : ℕ) where
  both : (xs ys : List Span) → decorator_reports rule (xs ++ ys) ≡ decorator_reports rule xs ++ decorator_reports rule ys
  both [] ys = refl
  both (x ∷ xs) ys = ap (λ l. at_place rule x ∷ l) (both xs ys)

  -- one decorator more is reported
  pub reported_more : (ds : List Span) (i : ℕ) (d : Span) {l l' l'' : Held Report} → i < length ds → Noted l l' (decorator_reports rule (take i ds)) → Noted l' l'' (at_place rule (get_or ds i d) ∷ []) → Noted l l'' (decorator_reports rule (take (i + 1) ds))
  reported_more ds i d {l} {l'} {l''} h x y =
      subst (λ (rs : List Report). Noted l l'' rs)
      (sym (ap (decorator_reports rule) (take_more ds i d h) ∙ both (take i ds) (get_or ds i d ∷ []))) (noted_then x y)

pub length_more : (ds : List Span) (d : Span) → length (ds ++ (d ∷ [])) ≡ length ds + 1
length_more [] d = refl
length_more (x ∷ ds) d = let h = length_more ds d in omega (arith, h)
