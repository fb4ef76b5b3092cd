-- Calls in the gate's order, one more in front.
use Rattle.std.proofs.Common.{◌≡◌, ℕ, List, [], ◌∷◌, ◌++◌, Some, None, Ok, Err, Option, Result, sym, refl, ap, ◌∙◌, subst}
use Rattle.std.specs.Option.{option_or}
use Rattle.dialogue.specs.Fatal.{fatal_number}
use Rattle.dialogue.specs.declared.Fatal.{Fatal}
use Rattle.laws.proofs.Chains.{happened, ran_push}
use Rattle.laws.specs.Bodies.{InOrder, ReadFrom, following, refusal_among}
use Rattle.laws.specs.Chains.{Happened, Ran, Step}
use Rattle.laws.specs.Outcomes.{refused_in, said_by}
use Rattle.laws.specs.declared.outcome.Outcome.TheVariants.{Done, Read}
use Rattle.refusal.specs.Numbers.{refusal_number}
use Rattle.refusal.specs.Questions.{refused_by}
use Rattle.refusal.specs.declared.Refusal.{Refusal}
use Rattle.session.specs.Worlds.{Did, World, carried, done_says, fault, kept_says, member, no_more, refused}
use Rattle.session.specs.declared.state.Reading.{Reading}
use Rattle.session.specs.declared.state.Reading.TheVariants.{Fault, Member as MemberRead, NoMore}
use Rattle.session.specs.declared.state.Call.{Call}
use Rattle.session.specs.declared.state.Call.TheVariants.{Close, Member, Open}

or_none : (a : Option ℕ) → a ≡ option_or a None
or_none None = refl
or_none (Some n) = refl

-- the last call
pub read_last : {c : Call} (x : Happened) → x.call ≡ c → following c (said_by x.told) ≡ None → Step x → ReadFrom c (refused_in (said_by x.told)) x.before x.after
read_last x e f s = record { chain = x ∷ []; ran = (refl, s, refl); order = (e, f); told = or_none (refused_in (said_by x.told)) }

-- one call before others
pub read_before : {c d : Call} {r : Option ℕ} {w' : World} (x : Happened) → x.call ≡ c → following c (said_by x.told) ≡ Some d → refused_in (said_by x.told) ≡ None → Step x → ReadFrom d r x.after w' → ReadFrom c r x.before w'
read_before x e f g s p =
    record {
      chain = x ∷ p.chain;
      ran = (refl, s, p.ran);
      order = (e, subst (λ (z : Option Call). InOrder z p.chain None) (sym f) p.order);
      told = p.told ∙ ap (λ (z : Option ℕ). option_or z (refusal_among p.chain)) (sym g);
    }

-- members that were read, one after the other
abbrev AllRead : List Happened → Type 0
AllRead [] = Unit {0}
AllRead (x ∷ xs) = (x.call ≡ Member) × (said_by x.told ≡ member) × AllRead xs

pub record Going (w v : World) : Type 0 where
  chain : List Happened
  ran : Ran w chain v
  all : AllRead chain

pub going_none : (w : World) → Going w w
going_none w = record { chain = []; ran = refl; all = tt }

all_push : (xs : List Happened) (x : Happened) → AllRead xs → x.call ≡ Member → said_by x.told ≡ member → AllRead (xs ++ (x ∷ []))
all_push [] x a e f = (e, f, tt)
all_push (y ∷ ys) x a e f = (a.0, a.1, all_push ys x a.2 e f)

pub going_more : {w v : World} (x : Happened) → Going w v → x.before ≡ v → x.call ≡ Member → said_by x.told ≡ member → Step x → Going w x.after
going_more {w} {v} x p b e f s = record { chain = p.chain ++ (x ∷ []); ran = ran_push w v p.chain x p.ran b s; all = all_push p.chain x p.all e f }

after_all : {r : Option ℕ} {v w' : World} (w : World) (xs : List Happened) → Ran w xs v → AllRead xs → ReadFrom Member r v w' → ReadFrom Member r w w'
after_all {r} {v} {w'} w [] e a p = subst (λ (z : World). ReadFrom Member r z w') (sym e) p
after_all {r} {v} {w'} w (x ∷ xs) e a p =
    subst (λ (z : World). ReadFrom Member r z w') e.0
    (read_before x a.0 (ap (following Member) a.1) (ap refused_in a.1) e.1 (after_all x.after xs e.2 a.2 p))

-- and then the rest
pub going_then : {r : Option ℕ} {w v w' : World} → Going w v → ReadFrom Member r v w' → ReadFrom Member r w w'
going_then {w = w} p q = after_all w p.chain p.ran p.all q

-- the ways of the gate, call by call
pub as_read : {x y : Reading} {v v' : World} → x ≡ y → Did Member (kept_says x) v v' → Did Member (kept_says y) v v'
as_read {v = v} {v' = v'} e d = subst (λ (z : Reading). Did Member (kept_says z) v v') e d

pub going_on : {w v v' : World} → Going w v → Did Member member v v' → Going w v'
going_on {w} {v} {v'} p d = going_more (happened v Member (Ok (Read MemberRead)) v') p refl refl refl d

pub at_fault : {w v w' : World} (f : Fatal) → Going w v → Did Member (fault (fatal_number f)) v w' → ReadFrom Member None w w'
at_fault {w} {v} {w'} f p d = going_then p (read_last (happened v Member (Ok (Read (Fault f))) w') refl refl d)

pub at_refusal : {w v w' : World} (r : Refusal) → Going w v → Did Member (refused (refusal_number r)) v w' → ReadFrom Member (Some (refusal_number r)) w w'
at_refusal {w} {v} {w'} r p d = going_then p (read_last (happened v Member (Err r) w') refl refl d)

closing : {u w' : World} (o : Result Unit Refusal) → Did Close (done_says o) u w' → ReadFrom Close (refused_by o) u w'
closing {u} {w'} (Ok x) d = read_last (happened u Close (Ok Done) w') refl refl d
closing {u} {w'} (Err r) d = read_last (happened u Close (Err r) w') refl refl d

pub at_end : {w v u w' : World} (o : Result Unit Refusal) → Going w v → Did Member no_more v u → Did Close (done_says o) u w' → ReadFrom Member (refused_by o) w w'
at_end {w} {v} {u} {w'} o p d c = going_then p (read_before (happened v Member (Ok (Read NoMore)) u) refl refl refl d (closing o c))

pub not_opened : {w w' : World} (r : Refusal) → Did Open (refused (refusal_number r)) w w' → ReadFrom Open (Some (refusal_number r)) w w'
not_opened {w} {w'} r d = read_last (happened w Open (Err r) w') refl refl d

pub opened : {w v w' : World} {r : Option ℕ} → Did Open carried w v → ReadFrom Member r v w' → ReadFrom Open r w w'
opened {w} {v} d p = read_before (happened w Open (Ok Done) v) refl refl refl d p
