-- Noting, element by element and row by row.
use Rattle.std.proofs.Common.{◌≡◌, ℕ, List as Row, [], ◌∷◌, ◌++◌, sym, refl, ◌∙◌, ap₂}
use Rattle.list.specs.Lists.{Contents, Noted, contents, note_all, note_one, room}
use Rattle.list.specs.declared.list.List.{List}

abbrev pub of : {T : Type 0} → Row T → ℕ → Contents T
of h m = record { holds = h; misses = m }

pub note_join : {T : Type 0} (n : ℕ) (k : Contents T) (xs ys : Row T) → note_all n k (xs ++ ys) ≡ note_all n (note_all n k xs) ys
note_join n k [] ys = refl
note_join n k (x ∷ xs) ys = note_join n (note_one n k x) xs ys

pub noted_none : {T : Type 0} (l : List T) → Noted l l []
noted_none l = record { after = refl; places = refl; lent = refl }

-- one row noted, then another
pub noted_then : {T : Type 0} {l l' l'' : List T} {xs ys : Row T} → Noted l l' xs → Noted l' l'' ys → Noted l l'' (xs ++ ys)
noted_then {l = l} {xs = xs} {ys = ys} a b =
    record {
      after = b.after ∙ ap₂ (λ n k. note_all n k ys) a.places a.after ∙ sym (note_join (room l) (contents l) xs ys);
      places = b.places ∙ a.places;
      lent = b.lent ∙ a.lent;
    }
