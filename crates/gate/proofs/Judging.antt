-- The two ways of a verdict.
use Rattle.std.proofs.Common.{◌≡◌, ℕ, true, false, List, is_some, Ok, Err, Option, Result, sym, ap, subst}
use Rattle.brackets.specs.Format.{bracket_answers}
use Rattle.gate.specs.Verdicts.{Judged, scene_of, tokens_of}
use Rattle.kinds.specs.declared.context.Context.{Context}
use Rattle.laws.specs.Bodies.{ReadFrom}
use Rattle.reader.specs.Scenes.{Scene}
use Rattle.records.specs.Told.{Told}
use Rattle.refusal.specs.Questions.{first_no, number_of, refused_by}
use Rattle.refusal.specs.declared.Refusal.{Refusal}
use Rattle.reports.specs.declared.Report.{Report}
use Rattle.session.specs.Boards.{Board}
use Rattle.session.specs.Worlds.{Answer, Did, World, fresh_session, world_of}
use Rattle.session.specs.declared.state.Call.TheVariants.{Open, Standing}
use Rattle.session.specs.declared.state.Language.TheVariants.{TypeScript}
use Rattle.session.specs.declared.state.Session.{Session}
use Rattle.small_set.specs.Members.{member}
use Rattle.token.specs.declared.Token.{Token}
use Rattle.std.specs.Result.{result_err}
use Rattle.text.specs.Lexed.{lexed, text_meaning, text_questions}

-- a text that is not refused means its tokens
pub means_lexed : (bs : List ℕ) → is_some (first_no (text_questions bs)) ≡ false → text_meaning bs ≡ lexed bs
means_lexed bs h = rw h

abbrev pub at : List Token → ℕ → Scene
at ts n = record { tokens = ts; last = n; answers = bracket_answers }

-- the refusal that a body earns is the one that reading it answers
pub as_refused : (o : Result Unit Refusal) {e : Option Refusal} → e ≡ result_err o → number_of e ≡ refused_by o
as_refused (Ok u) h = ap number_of h
as_refused (Err r) h = ap number_of h

-- what is met at the start
pub scene_of_lem : (bs : List ℕ) {ts : List Token} {n : ℕ} → ts ≡ tokens_of bs → n ≡ 0 → at ts n ≡ scene_of bs
scene_of_lem bs e f = cc

module _ (bs : List ℕ) (context : Context) (empty : (j : ℕ) → member context.bits j ≡ false) {s : Session} (fresh : s ≡ fresh_session TypeScript context) {r r' : Board Report} {m m' : Board Told} {n : Option ℕ} {a : Answer} where
  pub unread : n ≡ first_no (text_questions bs) → is_some (first_no (text_questions bs)) ≡ true → Did Standing a (world_of s (scene_of bs) r m) (world_of s (scene_of bs) r' m') → Judged bs n a r r' m m'
  unread e h d =
      record {
        context = context;
        empty = empty;
        final = world_of s (scene_of bs) r m;
        reports = sym (ap (λ (w : World). w.reports) d.after);
        members = sym (ap (λ (w : World). w.members) d.after);
        unread = λ _. (e, ap (λ (z : Session). world_of z (scene_of bs) r m) fresh);
        read = λ f. cc;
        stands = d.says;
      }

  pub read : {v v₂ : Scene} {s₂ : Session} {r₂ : Board Report} {m₂ : Board Told} {k : Option ℕ} → n ≡ k → v ≡ scene_of bs → is_some (first_no (text_questions bs)) ≡ false → ReadFrom Open k (world_of s v r m) (world_of s₂ v₂ r₂ m₂) → Did Standing a (world_of s₂ v₂ r₂ m₂) (world_of s₂ v₂ r' m') → Judged bs n a r r' m m'
  read {v} {v₂} {s₂} {r₂} {m₂} t e h p d =
      record {
        context = context;
        empty = empty;
        final = world_of s₂ v₂ r₂ m₂;
        reports = sym (ap (λ (w : World). w.reports) d.after);
        members = sym (ap (λ (w : World). w.members) d.after);
        unread = λ f. cc;
        read =
            λ _. subst (λ (z : Session). ReadFrom Open n (world_of z (scene_of bs) r m) (world_of s₂ v₂ r₂ m₂)) fresh
            (subst (λ (z : Scene). ReadFrom Open n (world_of s z r m) (world_of s₂ v₂ r₂ m₂)) e
            (subst (λ (z : Option ℕ). ReadFrom Open z (world_of s v r m) (world_of s₂ v₂ r₂ m₂)) (sym t) p));
        stands = d.says;
      }
