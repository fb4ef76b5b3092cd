-- A step of a dialogue that the code took, and the rest: one lemma for each kind of step.
use Rattle.std.proofs.Common.{◌≡◌, ℕ, Bool, true, false, cond, List, [], ◌∷◌, length, Ok, Err, Result, sym, refl, ap, ◌∙◌, subst}
use Rattle.checks.specs.ClassChecks.{check_reports}
use Rattle.checks.specs.declared.class_check.ClassCheck.{ClassCheck}
use Rattle.dialogue.specs.Dialogues.{Dialogue, after, ask_index, check, done, eat, gains, last, look, note, outcome, peek, semicolons, stop, take_keywords, take_method, take_part, take_semicolons, test}
use Rattle.dialogue.specs.Fatal.{fatal_number}
use Rattle.dialogue.specs.Spoken.{Spoke}
use Rattle.dialogue.specs.declared.Fatal.{Fatal}
use Rattle.keywords.specs.Run.{KeywordsRead, kept_of, lasts}
use Rattle.keywords.specs.declared.ListSettings.{ListSettings}
use Rattle.list.proofs.Noting.{noted_none, noted_then}
use Rattle.list.specs.Lists.{Noted}
use Rattle.list.specs.declared.list.List.{List as Held}
use Rattle.modifiers.specs.Lists.{entries}
use Rattle.modifiers.specs.declared.modifier.Modifier.{Modifier}
use Rattle.modifiers.specs.declared.modifiers.Modifiers.{Modifiers}
use Rattle.parts.specs.declared.MethodFacts.{MethodFacts}
use Rattle.parts.specs.declared.Part.{Part}
use Rattle.parts.specs.declared.Span.{Span}
use Rattle.reader.specs.Scenes.{Scene, past, past_one}
use Rattle.reader.specs.Tokens.{head, next}
use Rattle.reports.specs.Reports.{at_place}
use Rattle.reports.specs.declared.Report.{Report}
use Rattle.script.specs.Asking.{index_at, method_at, part_at}
use Rattle.token.specs.declared.Token.{Token}

pub done_spoke : {A : Type 0} (a : A) {s s' : Scene} {l : Held Report} → s' ≡ s → Spoke (done a) s s' l l (Ok a)
done_spoke a {l = l} e = record { value = refl; means = e; reports = noted_none l }

pub stop_spoke : {A : Type 0} (f : Fatal) (p : Span) {s s' : Scene} {l l' : Held Report} {q : Report} → s' ≡ s → q ≡ at_place (fatal_number f) p → Noted l l' (q ∷ []) → Spoke {A = A} (stop f p) s s' l l' (Err f)
stop_spoke f p {l = l} {l' = l'} e q n = record { value = refl; means = e; reports = subst (λ (r : Report). Noted l l' (r ∷ [])) q n }

module _ {A : Type 0} {s s' : Scene} {l l' : Held Report} {r : Result A Fatal} where
  pub note_spoke : (qs : List Report) (d : Dialogue A) {ps : List Report} {l₁ : Held Report} → ps ≡ qs → Noted l l₁ ps → Spoke d s s' l₁ l' r → Spoke (note qs d) s s' l l' r
  note_spoke qs d {l₁ = l₁} e n x = record { value = x.value; means = x.means; reports = noted_then (subst (λ (z : List Report). Noted l l₁ z) e n) x.reports }

  pub look_spoke : (k : Token → Dialogue A) {t : Token} → t ≡ head s.tokens → Spoke (k t) s s' l l' r → Spoke (look k) s s' l l' r
  look_spoke k e x =
      let y : Spoke (k (head s.tokens)) s s' l l' r = subst (λ (u : Token). Spoke (k u) s s' l l' r) e x in
      record { value = y.value; means = y.means; reports = y.reports }

  pub peek_spoke : (k : Token → Dialogue A) {t : Token} → t ≡ head (next s.tokens) → Spoke (k t) s s' l l' r → Spoke (peek k) s s' l l' r
  peek_spoke k e x =
      let y : Spoke (k (head (next s.tokens))) s s' l l' r = subst (λ (u : Token). Spoke (k u) s s' l l' r) e x in
      record { value = y.value; means = y.means; reports = y.reports }

  pub last_spoke : (k : ℕ → Dialogue A) {e : ℕ} → e ≡ s.last → Spoke (k e) s s' l l' r → Spoke (last k) s s' l l' r
  last_spoke k p x =
      let y : Spoke (k s.last) s s' l l' r = subst (λ (u : ℕ). Spoke (k u) s s' l l' r) p x in
      record { value = y.value; means = y.means; reports = y.reports }

  pub eat_yes : (p : ℕ → Bool) (k j : Token → Dialogue A) {t : Token} {s₁ : Scene} → t ≡ head s.tokens → p t.kind.code ≡ true → s₁ ≡ past_one s → Spoke (k t) s₁ s' l l' r → Spoke (eat p k j) s s' l l' r
  eat_yes p k j {t} {s₁} e h f x =
      let b : p (head s.tokens).kind.code ≡ true = sym (ap (λ (u : Token). p u.kind.code) e) ∙ h in
      let y : Spoke (k (head s.tokens)) (past_one s) s' l l' r = subst (λ (z : Scene). Spoke (k (head s.tokens)) z s' l l' r) f (subst (λ (u : Token). Spoke (k u) s₁ s' l l' r) e x) in
      let t₀ = head s.tokens in
      record {
        value = y.value ∙ sym (ap (λ z. cond z (outcome (k t₀) (past_one s)) (outcome (j t₀) s)) b);
        means = y.means ∙ sym (ap (λ z. cond z (after (k t₀) (past_one s)) (after (j t₀) s)) b);
        reports = subst (λ (xs : List Report). Noted l l' xs) (sym (ap (λ z. cond z (gains (k t₀) (past_one s)) (gains (j t₀) s)) b)) y.reports;
      }

  pub eat_no : (p : ℕ → Bool) (k j : Token → Dialogue A) {t : Token} → t ≡ head s.tokens → p t.kind.code ≡ false → Spoke (j t) s s' l l' r → Spoke (eat p k j) s s' l l' r
  eat_no p k j {t} e h x =
      let b : p (head s.tokens).kind.code ≡ false = sym (ap (λ (u : Token). p u.kind.code) e) ∙ h in
      let y : Spoke (j (head s.tokens)) s s' l l' r = subst (λ (u : Token). Spoke (j u) s s' l l' r) e x in
      let t₀ = head s.tokens in
      record {
        value = y.value ∙ sym (ap (λ z. cond z (outcome (k t₀) (past_one s)) (outcome (j t₀) s)) b);
        means = y.means ∙ sym (ap (λ z. cond z (after (k t₀) (past_one s)) (after (j t₀) s)) b);
        reports = subst (λ (xs : List Report). Noted l l' xs) (sym (ap (λ z. cond z (gains (k t₀) (past_one s)) (gains (j t₀) s)) b)) y.reports;
      }

  pub semicolons_spoke : (d : Dialogue A) {s₁ : Scene} → s₁ ≡ past (semicolons s.tokens) s → Spoke d s₁ s' l l' r → Spoke (take_semicolons d) s s' l l' r
  semicolons_spoke d f x =
      let y : Spoke d (past (semicolons s.tokens) s) s' l l' r = subst (λ (z : Scene). Spoke d z s' l l' r) f x in
      record { value = y.value; means = y.means; reports = y.reports }

  pub keywords_spoke : (t : ListSettings) (k : List Modifier → Dialogue A) {m : Modifiers} {s₁ : Scene} {l₁ : Held Report} → KeywordsRead t s s₁ m l l₁ → Spoke (k (entries m)) s₁ s' l₁ l' r → Spoke (take_keywords t k) s s' l l' r
  keywords_spoke t k {m} {s₁} {l₁} w x =
      let y : Spoke (k (lasts (kept_of t s))) (past (length (kept_of t s)) s) s' l₁ l' r =
      subst (λ (z : List Modifier). Spoke (k z) (past (length (kept_of t s)) s) s' l₁ l' r) w.kept (subst (λ (z : Scene). Spoke (k (entries m)) z s' l₁ l' r) w.after x) in
      record { value = y.value; means = y.means; reports = noted_then w.reports y.reports }

  pub check_spoke : (c : ClassCheck) (ms : List Modifier) (d : Dialogue A) {l₁ : Held Report} → Noted l l₁ (check_reports c ms) → Spoke d s s' l₁ l' r → Spoke (check c ms d) s s' l l' r
  check_spoke c ms d e x = record { value = x.value; means = x.means; reports = noted_then e x.reports }

  pub part_spoke : (p : Part) (c : ℕ) (k : Result Span Span → Dialogue A) {a : Result Span Span} {s₁ : Scene} → a ≡ (part_at p c s).result → s₁ ≡ past (part_at p c s).count s → Spoke (k a) s₁ s' l l' r → Spoke (take_part p c k) s s' l l' r
  part_spoke p c k {a} {s₁} e f x =
      let y : Spoke (k (part_at p c s).result) (past (part_at p c s).count s) s' l l' r =
      subst (λ (z : Result Span Span). Spoke (k z) (past (part_at p c s).count s) s' l l' r) e (subst (λ (z : Scene). Spoke (k a) z s' l l' r) f x) in
      record { value = y.value; means = y.means; reports = y.reports }

  pub method_spoke : (c : ℕ) (k : Result MethodFacts Span → Dialogue A) {a : Result MethodFacts Span} {s₁ : Scene} → a ≡ (method_at c s).result → s₁ ≡ past (method_at c s).count s → Spoke (k a) s₁ s' l l' r → Spoke (take_method c k) s s' l l' r
  method_spoke c k {a} {s₁} e f x =
      let y : Spoke (k (method_at c s).result) (past (method_at c s).count s) s' l l' r =
      subst (λ (z : Result MethodFacts Span). Spoke (k z) (past (method_at c s).count s) s' l l' r) e (subst (λ (z : Scene). Spoke (k a) z s' l l' r) f x) in
      record { value = y.value; means = y.means; reports = y.reports }

  pub index_spoke : (c : ℕ) (k : Bool → Dialogue A) {b : Bool} → b ≡ index_at c s → Spoke (k b) s s' l l' r → Spoke (ask_index c k) s s' l l' r
  index_spoke c k e x =
      let y : Spoke (k (index_at c s)) s s' l l' r = subst (λ (z : Bool). Spoke (k z) s s' l l' r) e x in
      record { value = y.value; means = y.means; reports = y.reports }

  pub test_true : (b : Bool) (d e : Dialogue A) → b ≡ true → Spoke d s s' l l' r → Spoke (test b d e) s s' l l' r
  test_true b d e p x = rw p (record { value = x.value; means = x.means; reports = x.reports })

  pub test_false : (b : Bool) (d e : Dialogue A) → b ≡ false → Spoke e s s' l l' r → Spoke (test b d e) s s' l l' r
  test_false b d e p x = rw p (record { value = x.value; means = x.means; reports = x.reports })
