-- A chain with one call more.
use Rattle.std.proofs.Common.{◌≡◌, List, [], ◌∷◌, ◌++◌, sym, refl, ap, ◌∙◌, subst}
use mathlib.Core.List.{map-append}
use Rattle.laws.specs.Chains.{Happened, Performed, Ran, Step}
use Rattle.laws.specs.Outcomes.{Told, said_by}
use Rattle.list.proofs.Noting.{noted_then}
use Rattle.list.specs.Lists.{Noted}
use Rattle.list.specs.declared.list.List.{List as Held}
use Rattle.session.specs.Worlds.{Answer, Did, World}
use Rattle.session.specs.declared.state.Call.{Call}

abbrev pub happened : World → Call → Told → World → Happened
happened w c o w' = record { before = w; call = c; told = o; after = w' }

pub ran_push : (w v : World) (xs : List Happened) (x : Happened) → Ran w xs v → x.before ≡ v → Step x → Ran w (xs ++ (x ∷ [])) x.after
ran_push w v [] x r e s = (e ∙ sym r, s, refl)
ran_push w v (y ∷ ys) x r e s = (r.0, r.1, ran_push y.after v ys x r.2 e s)

pub performed_more : {calls : List Call} {w v v' : World} {t t' t'' : Held Told} (c : Call) {o : Told} → Performed calls w v t t' → Did c (said_by o) v v' → Noted t' t'' (o ∷ []) → Performed (calls ++ (c ∷ [])) w v' t t''
performed_more {calls} {w} {v} {v'} {t} {t'} {t''} c {o} p d n =
    let x = happened v c o v' in
    record {
      chain = p.chain ++ (x ∷ []);
      ran = ran_push w v p.chain x p.ran refl d;
      are = map-append (λ (y : Happened). y.call) p.chain (x ∷ []) ∙ ap (λ cs. cs ++ (c ∷ [])) p.are;
      told = subst (λ (os : List Told). Noted t t'' os) (sym (map-append (λ (y : Happened). y.told) p.chain (x ∷ []))) (noted_then p.told n);
    }

-- the same, by other names for the call and for what it told
pub did_as : {c c' : Call} {a a' : Answer} {w w' : World} → c' ≡ c → a' ≡ a → Did c a w w' → Did c' a' w w'
did_as {c' = c'} {a = a} {w = w} {w' = w'} e f d = subst (λ (x : Answer). Did c' x w w') (sym f) (subst (λ (x : Call). Did x a w w') (sym e) d)
