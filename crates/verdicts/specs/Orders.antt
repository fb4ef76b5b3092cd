-- What is said of a keyword after those that are kept.
use Rattle.std.specs.Prelude.{◌≡◌, ℕ, ◌<◌, Bool, true, false, cond, ◌&&◌, List, [], ◌∷◌, Some, None, filter, Option, ◌==◌}
use Rattle.kinds.specs.Modifiers.{modifier_number}
use Rattle.kinds.specs.declared.modifier_kind.ModifierKind.{ModifierKind}
use Rattle.rules.specs.Rules.{rule_number}
use Rattle.rules.specs.declared.Rule.{Rule}
use Rattle.rules.specs.declared.Rule.TheVariants.{AccessibilityAlreadySeen, AlreadySeen}
use Rattle.verdicts.specs.declared.order.OrderVerdict.{OrderVerdict}
use Rattle.verdicts.specs.Verdicts.{any_of, every_kind, forbids, rule_of, verdict_of}

-- a rule that names no kept kind, and one that does
abbrev pub silent : Rule → OrderVerdict
silent rule = record { rule = rule; other = None }

abbrev pub naming : Rule → ModifierKind → OrderVerdict
naming rule k = record { rule = rule; other = Some k }

abbrev pub naming_if : Option Rule → ModifierKind → Option OrderVerdict
naming_if None k = None
naming_if (Some rule) k = Some (naming rule k)

-- the kept kinds that are forbidden before a kind, the lowest number first
abbrev pub offenders : (ModifierKind → Bool) → ModifierKind → List ModifierKind
offenders kept later = filter (λ k. kept k && forbids later k) every_kind

-- whether one of some kinds gives a verdict
abbrev pub some_give : ℕ → ModifierKind → List ModifierKind → Bool
some_give rule later = any_of (λ k. verdict_of later k == rule)

-- what is said of a kind where just these are forbidden before it
abbrev pub said_of : ModifierKind → List ModifierKind → Option OrderVerdict
said_of later [] = None
said_of later (k ∷ ks) =
    cond (some_give 1 later (k ∷ ks)) (Some (silent AccessibilityAlreadySeen))
    (cond (some_give 2 later (k ∷ ks)) (Some (silent AlreadySeen)) (naming_if (rule_of later k) k))

-- what is said of a kind after the kept ones: nothing if none is forbidden, rule 1 or 2 if one of them gives it, and
-- otherwise the verdict of the lowest, which is named
unfoldable pub order_of : (ModifierKind → Bool) → ModifierKind → Option OrderVerdict
order_of kept later = said_of later (offenders kept later)

-- no kept kind is forbidden before a kind
abbrev pub NoneForbidden : (ModifierKind → Bool) → ModifierKind → Type 0
NoneForbidden kept later = (k : ModifierKind) → kept k ≡ true → forbids later k ≡ false

-- some kept kind gives a verdict
abbrev pub Gets : ℕ → (ModifierKind → Bool) → ModifierKind → Type 0
Gets rule kept later = (k : ModifierKind) × (kept k ≡ true) × (verdict_of later k ≡ rule)

-- a kept kind that is forbidden before a kind, and the lowest such
abbrev pub LowestForbidden : (ModifierKind → Bool) → ModifierKind → ModifierKind → Type 0
LowestForbidden kept later k =
    (kept k ≡ true)
    × (forbids later k ≡ true)
    × ((j : ModifierKind) → modifier_number j < modifier_number k → kept j ≡ true → forbids later j ≡ false)

-- the rules of the order, of one set of kept kinds and one later kind
pub record OrderRules (kept : ModifierKind → Bool) (later : ModifierKind) : Type 0 where
  pub nothing : NoneForbidden kept later → order_of kept later ≡ None
  pub only_then : order_of kept later ≡ None → NoneForbidden kept later
  pub second : Gets 1 kept later → order_of kept later ≡ Some (silent AccessibilityAlreadySeen)
  pub again : Gets 2 kept later → order_of kept later ≡ Some (silent AlreadySeen)
  pub lowest : (k : ModifierKind) → LowestForbidden kept later k → (Gets 1 kept later → ⊥) → (Gets 2 kept later → ⊥) → (r : Rule) × (rule_number r ≡ verdict_of later k) × (order_of kept later ≡ Some (naming r k))

abbrev pub OrderStands : Type 0
OrderStands = (kept : ModifierKind → Bool) (later : ModifierKind) → OrderRules kept later
