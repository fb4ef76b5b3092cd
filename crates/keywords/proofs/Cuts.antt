-- A list of keywords cut at a place, and each kind once.
use Rattle.std.proofs.Common.{◌≡◌, suc, Bool, true, false, ◌||◌, List, [], ◌∷◌, ◌++◌, length, refl, ap, ◌∙◌, arith, length-append}
use Rattle.kinds.specs.declared.modifier_kind.ModifierKind.{ModifierKind}
use Rattle.modifiers.proofs.Kept.{keeps_added}
use Rattle.modifiers.specs.Entries.{added, keeps, same_kind}
use Rattle.modifiers.specs.declared.modifier.Modifier.{Modifier}
use Rattle.keywords.specs.Run.{lasts, lasts_from}

pub length_push : (pre : List Modifier) (m : Modifier) → length (pre ++ (m ∷ [])) ≡ suc (length pre)
length_push pre m = omega (arith, length-append pre (m ∷ []))

pub lasts_push : (ms ks : List Modifier) (k : Modifier) → lasts_from ms (ks ++ (k ∷ [])) ≡ added (lasts_from ms ks) k
lasts_push ms [] k = refl
lasts_push ms (j ∷ ks) k = lasts_push (added ms j) ks k

-- what is kept of each kind once is what is kept
swap : (a b c : Bool) → ((a || b) || c) ≡ (b || (a || c))
swap true true c = refl
swap true false c = refl
swap false b c = refl

keeps_from : (k : ModifierKind) (ms ks : List Modifier) → keeps k (lasts_from ms ks) ≡ (keeps k ms || keeps k ks)
keeps_from k ms [] = none (keeps k ms)
  where
    none : (a : Bool) → a ≡ (a || false)
    none true = refl
    none false = refl
keeps_from k ms (j ∷ ks) =
    keeps_from k (added ms j) ks ∙ ap (λ b. b || keeps k ks) (keeps_added k ms j)
    ∙ swap (same_kind j.kind k) (keeps k ms) (keeps k ks)

pub keeps_lasts : (k : ModifierKind) (ks : List Modifier) → keeps k (lasts ks) ≡ keeps k ks
keeps_lasts k ks = keeps_from k [] ks
