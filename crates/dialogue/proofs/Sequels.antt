-- One dialogue after another.
use Rattle.std.proofs.Common.{◌≡◌, Bool, true, false, cond, List, [], ◌++◌, length, Ok, Err, Result, sym, refl, ap, ◌∙◌, subst, ap₂, append_assoc, append-nil}
use Rattle.checks.specs.ClassChecks.{check_reports}
use Rattle.dialogue.specs.Dialogues.{Dialogue, after, ask_index, check, done, eat, gains, last, look, note, outcome, peek, semicolons, stop, take_keywords, take_method, take_part, take_semicolons, test, then}
use Rattle.dialogue.specs.Spoken.{Spoke}
use Rattle.dialogue.specs.declared.Fatal.{Fatal}
use Rattle.keywords.specs.Run.{kept_of, lasts, order_reports}
use Rattle.list.proofs.Noting.{noted_then}
use Rattle.list.specs.Lists.{Noted}
use Rattle.list.specs.declared.list.List.{List as Held}
use Rattle.reader.specs.Scenes.{Scene, past, past_one}
use Rattle.reader.specs.Tokens.{head, next}
use Rattle.reports.specs.declared.Report.{Report}
use Rattle.script.specs.Asking.{index_at, method_at, part_at}

module _ {A B : Type 0} (f : A → Dialogue B) where
  -- what follows, of an outcome
  abbrev outcome_of : Result A Fatal → Scene → Result B Fatal
  outcome_of (Err e) s = Err e
  outcome_of (Ok a) s = outcome (f a) s

  abbrev after_of : Result A Fatal → Scene → Scene
  after_of (Err e) s = s
  after_of (Ok a) s = after (f a) s

  abbrev gains_of : Result A Fatal → Scene → List Report
  gains_of (Err e) s = []
  gains_of (Ok a) s = gains (f a) s

  record Follows (d : Dialogue A) (s : Scene) : Type 0 where
    value : outcome (then d f) s ≡ outcome_of (outcome d s) (after d s)
    means : after (then d f) s ≡ after_of (outcome d s) (after d s)
    reports : gains (then d f) s ≡ gains d s ++ gains_of (outcome d s) (after d s)

  pick : (p : Bool) (d e : Dialogue A) (s t : Scene) → Follows d s → Follows e t → record {
    value : cond p (outcome (then d f) s) (outcome (then e f) t) ≡ outcome_of (cond p (outcome d s) (outcome e t)) (cond p (after d s) (after e t));
    means : cond p (after (then d f) s) (after (then e f) t) ≡ after_of (cond p (outcome d s) (outcome e t)) (cond p (after d s) (after e t));
    reports : cond p (gains (then d f) s) (gains (then e f) t) ≡ cond p (gains d s) (gains e t) ++ gains_of (cond p (outcome d s) (outcome e t)) (cond p (after d s) (after e t));
  }
  pick true d e s t h k = record { value = h.value; means = h.means; reports = h.reports }
  pick false d e s t h k = record { value = k.value; means = k.means; reports = k.reports }

  before : (xs : List Report) (d : Dialogue A) (s : Scene) → gains (then d f) s ≡ gains d s ++ gains_of (outcome d s) (after d s) → xs ++ gains (then d f) s ≡ (xs ++ gains d s) ++ gains_of (outcome d s) (after d s)
  before xs d s e = ap (λ l. xs ++ l) e ∙ sym (append_assoc xs (gains d s) _)

  follows : (d : Dialogue A) (s : Scene) → Follows d s
  follows (done a) s = record { value = refl; means = refl; reports = refl }
  follows (stop g p) s = record { value = refl; means = refl; reports = refl }
  follows (note rs d) s = let x = follows d s in record { value = x.value; means = x.means; reports = before rs d s x.reports }
  follows (look k) s = let x = follows (k (head s.tokens)) s in record { value = x.value; means = x.means; reports = x.reports }
  follows (peek k) s = let x = follows (k (head (next s.tokens))) s in record { value = x.value; means = x.means; reports = x.reports }
  follows (last k) s = let x = follows (k s.last) s in record { value = x.value; means = x.means; reports = x.reports }
  follows (eat p k l) s =
      let x = pick (p (head s.tokens).kind.code) (k (head s.tokens)) (l (head s.tokens)) (past_one s) s (follows (k (head s.tokens)) (past_one s)) (follows (l (head s.tokens)) s) in
      record { value = x.value; means = x.means; reports = x.reports }
  follows (take_semicolons d) s = let x = follows d (past (semicolons s.tokens) s) in record { value = x.value; means = x.means; reports = x.reports }
  follows (take_keywords t k) s =
      let x = follows (k (lasts (kept_of t s))) (past (length (kept_of t s)) s) in
      record { value = x.value; means = x.means; reports = before (order_reports [] (kept_of t s)) (k (lasts (kept_of t s))) (past (length (kept_of t s)) s) x.reports }
  follows (check c ms d) s = let x = follows d s in record { value = x.value; means = x.means; reports = before (check_reports c ms) d s x.reports }
  follows (take_part p c k) s = let x = follows (k (part_at p c s).result) (past (part_at p c s).count s) in record { value = x.value; means = x.means; reports = x.reports }
  follows (take_method c k) s = let x = follows (k (method_at c s).result) (past (method_at c s).count s) in record { value = x.value; means = x.means; reports = x.reports }
  follows (ask_index c k) s = let x = follows (k (index_at c s)) s in record { value = x.value; means = x.means; reports = x.reports }
  follows (test p d e) s = let x = pick p d e s s (follows d s) (follows e s) in record { value = x.value; means = x.means; reports = x.reports }

  -- a call of one piece, then one of the next
  pub then_spoke : (d : Dialogue A) {s s' s'' : Scene} {l l' l'' : Held Report} {a : A} {r : Result B Fatal} → Spoke d s s' l l' (Ok a) → Spoke (f a) s' s'' l' l'' r → Spoke (then d f) s s'' l l'' r
  then_spoke d {s} {s'} {s''} {l} {l'} {l''} {a} {r} one two =
      let x = follows d s in
      record {
        value = two.value ∙ sym (x.value ∙ ap₂ outcome_of (sym one.value) (sym one.means));
        means = two.means ∙ sym (x.means ∙ ap₂ after_of (sym one.value) (sym one.means));
        reports =
            subst (λ (xs : List Report). Noted l l'' xs) (sym (x.reports ∙ ap (λ l. gains d s ++ l) (ap₂ gains_of (sym one.value) (sym one.means))))
            (noted_then one.reports two.reports);
      }

  -- a piece that ends with a fatal rule ends all
  pub then_stopped : (d : Dialogue A) {s s' : Scene} {l l' : Held Report} {e : Fatal} → Spoke d s s' l l' (Err e) → Spoke (then d f) s s' l l' (Err e)
  then_stopped d {s} {s'} {l} {l'} {e} one =
      let x = follows d s in
      record {
        value = sym (x.value ∙ ap₂ outcome_of (sym one.value) (sym one.means));
        means = sym (x.means ∙ ap₂ after_of (sym one.value) (sym one.means));
        reports =
            subst (λ (xs : List Report). Noted l l' xs) (sym (x.reports ∙ ap (λ l. gains d s ++ l) (ap₂ gains_of (sym one.value) (sym one.means)) ∙ append-nil (gains d s)))
            one.reports;
      }
