-- What a check comes to, whatever its wording is; and what the checks of class members name.
use Rattle.std.specs.Prelude.{◌≡◌, ℕ, suc, Bool, true, false, cond, List, [], ◌∷◌, map, length, drop, Some, None, Option}
use Rattle.keywords.specs.Laws.{keyword_at, kind_at}
use Rattle.keywords.specs.Run.{lasts, place_of}
use Rattle.kinds.specs.Modifiers.{modifier_number}
use Rattle.kinds.specs.declared.modifier_kind.ModifierKind.{ModifierKind}
use Rattle.kinds.specs.declared.modifier_kind.ModifierKind.TheVariants.{Declare, Readonly, Async, Const, In, Out, Accessor as AccessorKind}
use Rattle.modifiers.specs.Entries.{ascending, keeps, same_kind}
use Rattle.modifiers.specs.declared.modifier.Modifier.{Modifier}
use Rattle.reports.specs.OneEach.{Ascending, OneEach}
use Rattle.reports.specs.declared.Report.{Report}
use Rattle.small_set.specs.Members.{member}
use Rattle.verdicts.specs.Verdicts.{among, packed}
use Rattle.checks.specs.ClassChecks.{allowed_in, rule_in}
use Rattle.checks.specs.Sayings.{Saying, disallowed_reports, given, said_of}
use Rattle.checks.specs.declared.class_check.ClassCheck.{ClassCheck}
use Rattle.checks.specs.declared.class_check.ClassCheck.TheVariants.{Element, JavaScript, StaticBlock, IndexSignature, ConstInOut, PrivateName, AccessorProperty, Accessor, Constructor, Method, Property}

-- the kind of the keyword at this place is outside the allowed set, and does not occur again
abbrev pub LastDisallowed : ℕ → List Modifier → ℕ → Type 0
LastDisallowed allowed kept i = (member allowed (modifier_number (kind_at kept i)) ≡ false) × (keeps (kind_at kept i) (drop (suc i) kept) ≡ false)

-- its report: what the wording says of the kind, at the keyword's place
abbrev pub Worded : ℕ → Bool → (ModifierKind → Option ℕ → Saying) → List Modifier → ℕ → Report → Type 0
Worded allowed strict says kept i r = r ≡ said_of (says (kind_at kept i) (given strict allowed)) (kind_at kept i) (place_of (keyword_at kept i))

-- of the keywords as they were read, repetitions among them: each kind outside the allowed set is reported once, at its
-- last occurrence, by ascending start, and nothing else is
pub record CheckedOnce (allowed : ℕ) (strict : Bool) (says : ModifierKind → Option ℕ → Saying) (kept : List Modifier) (rs : List Report) : Type 0 where
  pub once : OneEach (LastDisallowed allowed kept) (Worded allowed strict says kept) (length kept) rs
  pub ascend : Ascending (map (λ r. r.start) rs)

-- so it is for every allowed set, strictness and wording, of keywords that stand one after the other
abbrev pub ChecksStand : Type 0
ChecksStand =
    (allowed : ℕ) (strict : Bool) (says : ModifierKind → Option ℕ → Saying) (kept : List Modifier) → ascending kept ≡ true →
    CheckedOnce allowed strict says kept (disallowed_reports allowed strict says (lasts kept))

-- the rule that a check of class members names of a kind, if it names one
abbrev pub named_in : ClassCheck → ModifierKind → Option ℕ
named_in Element k = Some 6
named_in JavaScript k = Some 7
named_in StaticBlock k = Some 8
named_in IndexSignature k = Some 9
named_in ConstInOut k = cond (same_kind k Const) (Some 10) (cond (among k (In ∷ Out ∷ [])) (Some 11) None)
named_in PrivateName k = Some 12
named_in AccessorProperty k = Some 13
named_in Accessor k = cond (same_kind k AccessorKind) (Some 14) (cond (same_kind k Readonly) (Some 17) (cond (among k (Declare ∷ Async ∷ [])) (Some 15) None))
named_in Constructor k = cond (same_kind k Declare) (Some 16) (cond (same_kind k Readonly) (Some 17) (cond (same_kind k AccessorKind) (Some 14) None))
named_in Method k = cond (same_kind k Declare) (Some 6) (cond (same_kind k Readonly) (Some 17) (cond (same_kind k AccessorKind) (Some 14) None))
named_in Property k = Some 15

-- a check says of each kind that it disallows the rule that it names: the rest of its wording is never asked
abbrev pub NoFiller : Type 0
NoFiller = (c : ClassCheck) (k : ModifierKind) → among k (allowed_in c) ≡ false → named_in c k ≡ Some (rule_in c k)

-- the allowed set of a check, by its bits, holds the kinds that are listed and no other
abbrev pub SetsStand : Type 0
SetsStand = (c : ClassCheck) (k : ModifierKind) → member (packed (allowed_in c)) (modifier_number k) ≡ among k (allowed_in c)
