-- More steps of dialogues.
use Rattle.std.proofs.Common.{◌≡◌, ℕ, suc, ◌+◌, Bool, true, false, cond, ◌&&◌, List, [], ◌∷◌, Some, Ok, Err, Result, sym, refl, ap, ◌∙◌, subst, arith}
use Rattle.std.proofs.lemmas.Bool.Decides.{nat_tests}
use Rattle.std.proofs.lemmas.Result.{err_from_is_err_and}
use Rattle.std.specs.List.{list_all}
use Rattle.std.specs.Result.{IsErrAnd}
use Rattle.kinds.specs.declared.modifier_kind.ModifierKind.{ModifierKind}
use Rattle.modifiers.specs.Entries.{entry_of, fits, same_kind}
use Rattle.modifiers.specs.declared.modifier.Modifier.{Modifier}
use Rattle.dialogue.proofs.Sequels.{then_stopped}
use Rattle.dialogue.specs.Dialogues.{Dialogue, done, semicolons, then}
use Rattle.dialogue.specs.Spoken.{Spoke}
use Rattle.dialogue.specs.declared.Fatal.{Fatal}
use Rattle.list.proofs.Noting.{noted_none}
use Rattle.list.specs.declared.list.List.{List as Held}
use Rattle.reader.specs.Answers.{Answers}
use Rattle.reader.specs.Scenes.{Scene, past, past_one}
use Rattle.reader.specs.Tokens.{head, last_end, next}
use Rattle.reports.specs.declared.Report.{Report}
use Rattle.token.specs.Kinds.{k_semicolon}
use Rattle.token.specs.declared.Token.{Token}
use Rattle.class.specs.Taking.{is_kind}

-- the end, by another name for its value
pub done_is : {A : Type 0} {a b : A} {s : Scene} {l : Held Report} → a ≡ b → Spoke (done b) s s l l (Ok a)
done_is {l = l} e = record { value = ap Ok e; means = refl; reports = noted_none l }

-- the same, of another name for the piece
pub spoke_as : {A : Type 0} {d e : Dialogue A} {s s' : Scene} {l l' : Held Report} {r : Result A Fatal} → d ≡ e → Spoke d s s' l l' r → Spoke e s s' l l' r
spoke_as {A = A} {s = s} {s' = s'} {l = l} {l' = l'} {r = r} p x = subst (λ (d : Dialogue A). Spoke d s s' l l' r) p x

-- the same, of other names for where it ends
pub spoke_to : {A : Type 0} {d : Dialogue A} {s s' s₁ : Scene} {l l' l₁ : Held Report} {r : Result A Fatal} → Spoke d s s' l l' r → s₁ ≡ s' → l₁ ≡ l' → Spoke d s s₁ l l₁ r
spoke_to {d = d} {s = s} {s' = s'} {l = l} {l₁ = l₁} {r = r} x e f = subst (λ (z : Scene). Spoke d s z l l₁ r) (sym e) (subst (λ (z : Held Report). Spoke d s s' l z r) (sym f) x)

-- the same, of another name for the context's bits
pub under : {A : Type 0} (D : ℕ → Dialogue A) {b b' : ℕ} {s s' : Scene} {l l' : Held Report} {r : Result A Fatal} → b ≡ b' → Spoke (D b) s s' l l' r → Spoke (D b') s s' l l' r
under D {s = s} {s' = s'} {l = l} {l' = l'} {r = r} e x = subst (λ (b : ℕ). Spoke (D b) s s' l l' r) e x

-- a piece that ended with a fatal rule, which a `?` passes on
pub passed_on : {A B : Type 0} (f : A → Dialogue B) (d : Dialogue A) {s s' : Scene} {l l' : Held Report} {e : Fatal} {r : Result B Fatal} → IsErrAnd r (λ x. x ≡ e) → Spoke d s s' l l' (Err e) → Spoke (then d f) s s' l l' r
passed_on {B = B} f d {s} {s'} {l} {l'} {e} {r} h x =
    let p = err_from_is_err_and r h in
    subst (λ (q : Result B Fatal). Spoke (then d f) s s' l l' q) (sym (p.1 ∙ ap Err p.2)) (then_stopped f d x)

one : (n : ℕ) → 1 + n ≡ suc n
one n = omega arith

-- one semicolon more
more : (ts : List Token) (n : ℕ) (a : Answers) → is_kind k_semicolon (head ts).kind.code ≡ true → past (semicolons (next ts)) (record { tokens = next ts; last = last_end ts n; answers = a }) ≡ past (semicolons ts) (record { tokens = ts; last = n; answers = a })
more [] n a e = refl
more (t ∷ ts) n a e =
    let p : t.kind.code ≡ 134 = grind (arith, nat_tests) in
    rw (p, one (semicolons ts)) refl

pub semicolon_more : (s : Scene) {s₁ : Scene} → is_kind k_semicolon (head s.tokens).kind.code ≡ true → s₁ ≡ past_one s → past (semicolons s₁.tokens) s₁ ≡ past (semicolons s.tokens) s
semicolon_more s e f = ap (λ (z : Scene). past (semicolons z.tokens) z) f ∙ more s.tokens s.last s.answers e

-- a kept keyword ends within 32 bits
pub entry_fits : (k : ModifierKind) (ms : List Modifier) (m : Modifier) → list_all fits ms ≡ true → Some m ≡ entry_of k ms → fits m ≡ true
entry_fits k [] m h e = let z : ◌≡◌ {A = ℕ} 0 1 = cc in absurd (omega arith)
entry_fits k (x ∷ ms) m h e = pick (same_kind x.kind k) (fits x) (list_all fits ms) refl refl h e (entry_fits k ms m)
  where
    pick : (b f r : Bool) → f ≡ fits x → r ≡ list_all fits ms → f && r ≡ true → Some m ≡ cond b (Some x) (entry_of k ms) → (list_all fits ms ≡ true → Some m ≡ entry_of k ms → fits m ≡ true) → fits m ≡ true
    pick true true r p q h e again = let y : m ≡ x = cc in ap fits y ∙ sym p
    pick false true r p q h e again = again (sym q ∙ h) e
    pick b false r p q h e again = let z : ◌≡◌ {A = ℕ} 0 1 = cc in absurd (omega arith)
