-- A keyword list, one keyword at a time.
use Rattle.std.proofs.Common.{◌≡◌, ℕ, zero, suc, ◌^◌, ◌<◌, Bool, true, false, cond, List, [], ◌∷◌, ◌++◌, length, Some, None, Option, sym, refl, ap, ◌∙◌, subst, ap₂, append_assoc, append-nil, arith}
use Rattle.std.proofs.lemmas.Bool.Decides.{nat_tests}
use Rattle.kinds.specs.declared.modifier_kind.ModifierKind.{ModifierKind}
use Rattle.kinds.specs.declared.modifier_kind.ModifierKind.TheVariants.{Static}
use Rattle.keywords.proofs.Cuts.{lasts_push, length_push}
use Rattle.keywords.proofs.Earned.{orders_earned}
use Rattle.keywords.proofs.Longest.{longest_run}
use Rattle.keywords.specs.Laws.{LongestRun, OrderEarned}
use Rattle.keywords.specs.Run.{KeywordsRead, eligible, kept_from, kept_of, keyword_here, keyword_if, lasts, lasts_from, order_report, order_reports}
use Rattle.keywords.specs.declared.ListSettings.{ListSettings}
use Rattle.list.proofs.Noting.{noted_none, noted_then}
use Rattle.list.specs.Lists.{Noted}
use Rattle.list.specs.declared.list.List.{List as Held}
use Rattle.modifiers.specs.Entries.{added, keeps, may_follow, word_at}
use Rattle.modifiers.specs.Lists.{entries}
use Rattle.modifiers.specs.declared.modifier.Modifier.{Modifier}
use Rattle.modifiers.specs.declared.modifiers.Modifiers.{Modifiers}
use Rattle.reader.specs.Scenes.{Scene, past, past_one}
use Rattle.reader.specs.Sound.{sound}
use Rattle.reader.specs.Tokens.{ahead, head, is_eof, last_after, last_end, next}
use Rattle.reports.specs.declared.Report.{Report}
use Rattle.token.specs.Kinds.{modifier_of}
use Rattle.token.specs.declared.Token.{Token}

orders_push : (ms ks : List Modifier) (k : Modifier) → order_reports ms (ks ++ (k ∷ [])) ≡ order_reports ms ks ++ order_report (lasts_from ms ks) k
orders_push ms [] k = append-nil (order_report ms k)
orders_push ms (j ∷ ks) k = ap (λ l. order_report ms j ++ l) (orders_push (added ms j) ks k) ∙ sym (append_assoc (order_report ms j) (order_reports (added ms j) ks) _)

ahead_more : (n : ℕ) (ts : List Token) → ahead n (next ts) ≡ next (ahead n ts)
ahead_more zero ts = refl
ahead_more (suc n) ts = ahead_more n (next ts)

last_more : (n : ℕ) (ts : List Token) (x : ℕ) → last_after n (next ts) (last_end ts x) ≡ last_end (ahead n ts) (last_after n ts x)
last_more zero ts x = refl
last_more (suc n) ts x = last_more n (next ts) (last_end ts x)

past_more : (n : ℕ) (s : Scene) → past (suc n) s ≡ past_one (past n s)
past_more n s i = record { tokens = ahead_more n s.tokens i; last = last_more n s.tokens s.last i; answers = s.answers }

-- some keywords were read, and those from here on are yet to be
pub record Read (t : ListSettings) (s₀ s : Scene) (ms : List Modifier) (l₀ l : Held Report) : Type 0 where
  pub words : List Modifier
  pub keeps_them : ms ≡ lasts words
  pub there : s ≡ past (length words) s₀
  pub noted : Noted l₀ l (order_reports [] words)
  pub yet : kept_of t s₀ ≡ words ++ kept_from t ms s.tokens

pub read_none : (t : ListSettings) (s : Scene) (ms : List Modifier) (l : Held Report) → ms ≡ [] → Read t s s ms l l
read_none t s ms l e =
    record {
      words = [];
      keeps_them = e;
      there = refl;
      noted = noted_none l;
      yet = ap (λ m. kept_from t m s.tokens) (sym e);
    }

-- Eof is no keyword, so that the token after a keyword is the next one of the list
here_next : (t : ListSettings) (ms : List Modifier) (x : Token) (ts : List Token) → keyword_here t ms x (head (next (x ∷ ts))) ≡ keyword_here t ms x (head ts)
here_next t ms x ts = by (is_eof x) refl
  where
    by : (b : Bool) → is_eof x ≡ b → keyword_here t ms x (head (cond b (x ∷ ts) ts)) ≡ keyword_here t ms x (head ts)
    by true e = let z : x.kind.code ≡ 0 = grind (arith, nat_tests) in let n : modifier_of x.kind.code ≡ None = ap modifier_of z in rw n
    by false e = refl

-- the list ends where no keyword is, and goes on where one is
kept_none : (t : ListSettings) (ms : List Modifier) (ts : List Token) → keyword_here t ms (head ts) (head (next ts)) ≡ None → kept_from t ms ts ≡ []
kept_none t ms [] h = refl
kept_none t ms (x ∷ ts) h = let e : keyword_here t ms x (head ts) ≡ None = sym (here_next t ms x ts) ∙ h in
    ap (λ o. elim o [ None ↦ [] | Some m ↦ m ∷ kept_from t (added ms m) ts ]) e

none_not_some : {A : Type 0} {m : Modifier} → None ≡ Some m → A
none_not_some h = let z : ◌≡◌ {A = ℕ} 0 1 = cc in absurd (omega arith)

kept_some : (t : ListSettings) (ms : List Modifier) (ts : List Token) (m : Modifier) → keyword_here t ms (head ts) (head (next ts)) ≡ Some m → kept_from t ms ts ≡ m ∷ kept_from t (added ms m) (next ts)
kept_some t ms [] m h = let z : ◌≡◌ {A = ℕ} 0 1 = cc in absurd (omega arith)
kept_some t ms (x ∷ ts) m h = by (is_eof x) refl
  where
    e : keyword_here t ms x (head ts) ≡ Some m
    e = sym (here_next t ms x ts) ∙ h

    by : (b : Bool) → is_eof x ≡ b → kept_from t ms (x ∷ ts) ≡ m ∷ kept_from t (added ms m) (cond b (x ∷ ts) ts)
    by true f =
        let z : x.kind.code ≡ 0 = grind (arith, nat_tests) in
        let n : modifier_of x.kind.code ≡ None = ap modifier_of z in
        let o : keyword_here t ms x (head ts) ≡ None = ap (λ k. keyword_if t ms k x (head ts)) n in
        none_not_some (sym o ∙ e)
    by false f = ap (λ o. elim o [ None ↦ [] | Some m ↦ m ∷ kept_from t (added ms m) ts ]) e

pub read_all : {t : ListSettings} {s₀ s : Scene} {ms : List Modifier} {l₀ l : Held Report} → Read t s₀ s ms l₀ l → keyword_here t ms (head s.tokens) (head (next s.tokens)) ≡ None → (ms ≡ lasts (kept_of t s₀)) × (s ≡ past (length (kept_of t s₀)) s₀) × Noted l₀ l (order_reports [] (kept_of t s₀))
read_all {t} {s₀} {s} {ms} {l₀} {l} r h =
    let e : kept_of t s₀ ≡ r.words = r.yet ∙ ap (λ ks. r.words ++ ks) (kept_none t ms s.tokens h) ∙ append-nil r.words in (
      r.keeps_them ∙ ap lasts (sym e),
      r.there ∙ ap (λ ks. past (length ks) s₀) (sym e),
      subst (λ (ks : List Modifier). Noted l₀ l (order_reports [] ks)) (sym e) r.noted,
    )

pub read_more : {t : ListSettings} {s₀ s s' : Scene} {ms ms' : List Modifier} {l₀ l l' : Held Report} (m : Modifier) → Read t s₀ s ms l₀ l → keyword_here t ms (head s.tokens) (head (next s.tokens)) ≡ Some m → ms' ≡ added ms m → s' ≡ past_one s → Noted l l' (order_report ms m) → Read t s₀ s' ms' l₀ l'
read_more {t} {s₀} {s} {s'} {ms} {ms'} {l₀} {l} {l'} m r h e f n =
    record {
      words = r.words ++ (m ∷ []);
      keeps_them = e ∙ ap (λ ks. added ks m) r.keeps_them ∙ sym (lasts_push [] r.words m);
      there = f ∙ ap past_one r.there ∙ sym (ap (λ k. past k s₀) (length_push r.words m) ∙ past_more (length r.words) s₀);
      noted =
          subst (λ (rs : List Report). Noted l₀ l' rs) (sym (orders_push [] r.words m ∙ ap (λ ks. order_reports [] r.words ++ order_report ks m) (sym r.keeps_them)))
          (noted_then r.noted n);
      yet =
          r.yet ∙ ap (λ ks. r.words ++ ks) (kept_some t ms s.tokens m h ∙ ap₂ (λ ks ts. m ∷ kept_from t ks ts) (sym e) (ap (λ z. z.tokens) (sym f)))
          ∙ sym (append_assoc r.words (m ∷ []) _);
    }

pub some_is : {A : Type 0} (b : Bool) (x y : A) → Some y ≡ cond b (Some x) None → y ≡ x
some_is true x y e = cc
some_is false x y e = let z : ◌≡◌ {A = ℕ} 0 1 = cc in absurd (omega arith)

-- no keyword at all
pub no_keyword : (t : ListSettings) (ms : List Modifier) (ts : List Token) {x : Token} → x ≡ head ts → None ≡ modifier_of x.kind.code → keyword_here t ms (head ts) (head (next ts)) ≡ None
no_keyword t ms ts {x} cur none =
    ap (λ o. keyword_if t ms o (head ts) (head (next ts))) (sym (none ∙ ap (λ (y : Token). modifier_of y.kind.code) cur))

-- what the reader gives is what the list has
module _ (t : ListSettings) (ms : List Modifier) (ts : List Token) {x n : Token} {k : ModifierKind} {b : Bool} (cur : x ≡ head ts) (peek : n ≡ head (next ts)) (is : Some k ≡ modifier_of x.kind.code) (kept : b ≡ keeps Static ms) where
  here_at : (o : Option Modifier) → cond (eligible t b k n) (cond (may_follow ms (word_at k x.start)) (Some (word_at k x.start)) None) None ≡ o → keyword_here t ms (head ts) (head (next ts)) ≡ o
  here_at o h =
      sym (ap₂ (keyword_here t ms) cur peek) ∙ sym (ap (λ j. keyword_if t ms j x n) is)
      ∙ sym (ap (λ c. cond (eligible t c k n) (cond (may_follow ms (word_at k x.start)) (Some (word_at k x.start)) None) None) kept)
      ∙ h

  pub not_eligible : false ≡ eligible t b k n → keyword_here t ms (head ts) (head (next ts)) ≡ None
  not_eligible e = here_at None (rw (← e))

  pub not_after : true ≡ eligible t b k n → false ≡ may_follow ms (word_at k x.start) → keyword_here t ms (head ts) (head (next ts)) ≡ None
  not_after e f = here_at None (rw (← e, ← f))

  pub here : true ≡ eligible t b k n → true ≡ may_follow ms (word_at k x.start) → keyword_here t ms (head ts) (head (next ts)) ≡ Some (word_at k x.start)
  here e f = here_at (Some (word_at k x.start)) (rw (← e, ← f))

  -- a keyword is not Eof
  pub is_more : (head ts).kind.code ≡ 0 → ⊥
  is_more z =
      let p : Some k ≡ None = is ∙ ap (λ (y : Token). modifier_of y.kind.code) cur ∙ ap modifier_of z in
      let y : ◌≡◌ {A = ℕ} 0 1 = cc in omega arith

-- what a list comes to
pub record Done (t : ListSettings) (s₀ s : Scene) (m : Modifiers) (l₀ l : Held Report) : Type 0 where
  pub read : KeywordsRead t s₀ s m l₀ l
  pub longest : sound s₀.tokens ≡ true → LongestRun t s₀.tokens (kept_of t s₀)
  pub orders : OrderEarned (kept_of t s₀) (order_reports [] (kept_of t s₀))

-- once no keyword is here; the current token, as the code holds it, ends within 32 bits
pub read_done : {t : ListSettings} {s₀ s : Scene} (m : Modifiers) {l₀ l : Held Report} {x : Token} → x ≡ head s.tokens → x.end < 2 ^ 32 → Read t s₀ s (entries m) l₀ l → keyword_here t (entries m) (head s.tokens) (head (next s.tokens)) ≡ None → Done t s₀ s m l₀ l
read_done {t} {s₀} {s} m cur fit r h =
    let x = read_all r h in
    let f : (head s.tokens).end < 2 ^ 32 = subst (λ (y : Token). y.end < 2 ^ 32) cur fit in
    record {
      read = record { kept = x.0; after = x.1; reports = x.2 };
      longest = λ g. longest_run t s₀.tokens g (subst (λ (z : Scene). (head z.tokens).end < 2 ^ 32) x.1 f);
      orders = orders_earned (kept_of t s₀);
    }
