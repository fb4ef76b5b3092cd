-- Which keyword is forbidden before which, and what is said of it.
use Rattle.std.specs.Prelude.{ℕ, ◌+◌, ◌^◌, Bool, cond, not, ◌&&◌, ◌||◌, List, [], ◌∷◌, Some, None, Option, ◌==◌}
pub use Rattle.kinds.specs.Modifiers.{among, any_of, every_kind, kind_at, modifier_number, same_kind}
use Rattle.kinds.specs.declared.modifier_kind.ModifierKind.{ModifierKind}
use Rattle.kinds.specs.declared.modifier_kind.ModifierKind.TheVariants.{Declare, Private, Protected, Public, Static, Readonly, Abstract, Override, Async, Const, In, Out, Default, Accessor, Export}
use Rattle.rules.specs.Rules.{rule_number}
use Rattle.rules.specs.declared.Rule.{Rule}
use Rattle.rules.specs.declared.Rule.TheVariants.{AccessibilityAlreadySeen, AlreadySeen, WithOtherModifier, InAmbientContext, MustPrecede}

-- the kinds that may not stand before a kind
abbrev pub forbidden_before : ModifierKind → List ModifierKind
forbidden_before Declare = Declare ∷ Override ∷ []
forbidden_before Private = Private ∷ Protected ∷ Public ∷ Static ∷ Readonly ∷ Abstract ∷ Override ∷ Async ∷ Accessor ∷ []
forbidden_before Protected = Private ∷ Protected ∷ Public ∷ Static ∷ Readonly ∷ Abstract ∷ Override ∷ Async ∷ Accessor ∷ []
forbidden_before Public = Private ∷ Protected ∷ Public ∷ Static ∷ Readonly ∷ Abstract ∷ Override ∷ Async ∷ Accessor ∷ []
forbidden_before Static = Static ∷ Readonly ∷ Abstract ∷ Override ∷ Async ∷ Accessor ∷ []
forbidden_before Readonly = Readonly ∷ []
forbidden_before Abstract = Private ∷ Static ∷ Abstract ∷ Override ∷ Async ∷ Accessor ∷ []
forbidden_before Override = Declare ∷ Readonly ∷ Override ∷ Async ∷ Accessor ∷ []
forbidden_before Async = Abstract ∷ Async ∷ []
forbidden_before Const = Const ∷ []
forbidden_before In = In ∷ []
forbidden_before Out = Out ∷ []
forbidden_before Default = Default ∷ []
forbidden_before Accessor = Accessor ∷ []
forbidden_before Export = Declare ∷ Abstract ∷ Async ∷ Export ∷ []

-- the set of some kinds, each of them listed once, as bits
abbrev pub packed : List ModifierKind → ℕ
packed [] = 0
packed (k ∷ ks) = 2 ^ modifier_number k + packed ks

-- whether the later kind forbids the earlier one before it
-- (it opens by name only, as what is built on it does, so that proofs speak of kinds and not of the rows)
unfoldable pub forbids : ModifierKind → ModifierKind → Bool
forbids later earlier = among earlier (forbidden_before later)

abbrev pub accessibilities : List ModifierKind
accessibilities = Private ∷ Protected ∷ Public ∷ []

abbrev pub is_accessibility : ModifierKind → Bool
is_accessibility k = among k accessibilities

-- whether two kinds are these two, in the one order or the other
abbrev pub are_both : ModifierKind → ModifierKind → ModifierKind → ModifierKind → Bool
are_both a b j k = (same_kind j a && same_kind k b) || (same_kind j b && same_kind k a)

-- whether the later kind cannot be used with the earlier one at all
abbrev pub excludes : ModifierKind → ModifierKind → Bool
excludes later earlier =
    are_both Static Abstract later earlier
    || (are_both Private Abstract later earlier
    || (are_both Async Abstract later earlier || (same_kind later Override && same_kind earlier Declare)))

-- the rule that is said of the later kind, if one is
unfoldable pub rule_of : ModifierKind → ModifierKind → Option Rule
rule_of later earlier =
    cond (not (forbids later earlier)) None
    (cond (is_accessibility later && is_accessibility earlier) (Some AccessibilityAlreadySeen)
    (cond (same_kind later earlier) (Some AlreadySeen)
    (cond (excludes later earlier) (Some WithOtherModifier)
    (cond (same_kind later Declare && same_kind earlier Override) (Some InAmbientContext) (Some MustPrecede)))))

-- a rule by its number, 0 for none
abbrev pub rule_or_0 : Option Rule → ℕ
rule_or_0 None = 0
rule_or_0 (Some r) = rule_number r

-- what is said of the later kind, by number: 0 where nothing is
unfoldable pub verdict_of : ModifierKind → ModifierKind → ℕ
verdict_of later earlier = rule_or_0 (rule_of later earlier)

-- the rule of the order with a number, if there is one
abbrev pub rule_at : ℕ → Option Rule
rule_at n =
    cond (n == 1) (Some AccessibilityAlreadySeen)
    (cond (n == 2) (Some AlreadySeen)
    (cond (n == 3) (Some WithOtherModifier) (cond (n == 4) (Some InAmbientContext) (cond (n == 5) (Some MustPrecede) None))))
