-- A check, one kept keyword at a time.
use Rattle.std.proofs.Common.{◌≡◌, ℕ, ◌+◌, ◌<◌, Bool, List, [], ◌∷◌, ◌++◌, length, get_or, take, Some, None, Option, sym, refl, ap, ◌∙◌, subst, append_assoc, append-nil, arith}
use Rattle.std.proofs.lemmas.List.{take_more}
use Rattle.std.proofs.lemmas.Option.{slice_get-get_or}
use Rattle.std.specs.List.{slice_get}
use Rattle.checks.specs.Sayings.{Saying, disallowed_reports, given, report_unless, said_of}
use Rattle.keywords.specs.Run.{place_of}
use Rattle.kinds.specs.Modifiers.{modifier_number}
use Rattle.kinds.specs.declared.modifier_kind.ModifierKind.{ModifierKind}
use Rattle.kinds.specs.declared.modifier_kind.ModifierKind.TheVariants.{Declare}
use Rattle.list.proofs.Noting.{noted_then}
use Rattle.list.specs.Lists.{Noted}
use Rattle.list.specs.declared.list.List.{List as Held}
use Rattle.modifiers.specs.Entries.{placed, placed_if, word_at}
use Rattle.modifiers.specs.declared.modifier.Modifier.{Modifier}
use Rattle.modifiers.specs.declared.modifier.Placed.{Placed}
use Rattle.reports.specs.declared.Report.{Report}
use Rattle.small_set.specs.Members.{member}

module _ (allowed : ℕ) (strict : Bool) (says : ModifierKind → Option ℕ → Saying) where
  -- what is said of one keyword
  abbrev pub one : Modifier → List Report
  one m = report_unless (member allowed (modifier_number m.kind)) (said_of (says m.kind (given strict allowed)) m.kind (place_of m))

  both : (xs ys : List Modifier) → disallowed_reports allowed strict says (xs ++ ys) ≡ disallowed_reports allowed strict says xs ++ disallowed_reports allowed strict says ys
  both [] ys = refl
  both (x ∷ xs) ys = ap (λ l. one x ++ l) (both xs ys) ∙ sym (append_assoc (one x) (disallowed_reports allowed strict says xs) _)

  one_more : (ms : List Modifier) (i : ℕ) (d : Modifier) → i < length ms → disallowed_reports allowed strict says (take (i + 1) ms) ≡ disallowed_reports allowed strict says (take i ms) ++ one (get_or ms i d)
  one_more ms i d h =
      ap (disallowed_reports allowed strict says) (take_more ms i d h) ∙ both (take i ms) (get_or ms i d ∷ [])
      ∙ ap (λ k. disallowed_reports allowed strict says (take i ms) ++ k) (append-nil (one (get_or ms i d)))

  -- the keyword at a place, as the list hands it out
  handed : (m : Placed) (e : Modifier) → Some m ≡ placed_if (Some e) → one e ≡ report_unless (member allowed (modifier_number m.kind)) (said_of (says m.kind (given strict allowed)) m.kind m.place)
  handed m e h = let p : m ≡ placed e = cc in rw p

  pub checked_more : (ms : List Modifier) (i : ℕ) (m : Placed) {l l' l'' : Held Report} → i < length ms → Some m ≡ placed_if (slice_get ms i) → Noted l l' (disallowed_reports allowed strict says (take i ms))
      → Noted l' l'' (report_unless (member allowed (modifier_number m.kind)) (said_of (says m.kind (given strict allowed)) m.kind m.place))
      → Noted l l'' (disallowed_reports allowed strict says (take (i + 1) ms))
  checked_more ms i m {l} {l'} {l''} h e x y =
      let d = word_at Declare 0 in
      let p = handed m (get_or ms i d) (e ∙ ap placed_if (slice_get-get_or ms i d h)) in
      subst (λ (rs : List Report). Noted l l'' rs)
      (sym (one_more ms i d h ∙ ap (λ k. disallowed_reports allowed strict says (take i ms) ++ k) p)) (noted_then x y)

-- within a list there is always a keyword
pub never_none : (ms : List Modifier) (i : ℕ) → i < length ms → None ≡ placed_if (slice_get ms i) → ⊥
never_none ms i h e =
    let d = word_at Declare 0 in
    let p : None ≡ Some (placed (get_or ms i d)) = e ∙ ap placed_if (slice_get-get_or ms i d h) in
    let z : ◌≡◌ {A = ℕ} 0 1 = cc in omega arith
