-- The checks of class members: what each allows, and what it says of the rest.
use Rattle.std.specs.Prelude.{ℕ, Bool, true, false, cond, not, List, [], ◌∷◌, Some, None, filter, Option}
use Rattle.kinds.specs.declared.modifier_kind.ModifierKind.{ModifierKind}
use Rattle.kinds.specs.declared.modifier_kind.ModifierKind.TheVariants.{Declare, Private, Protected, Public, Static, Readonly, Abstract, Override, Async, Const, In, Out, Default, Accessor as AccessorKind, Export}
use Rattle.modifiers.specs.Entries.{same_kind}
use Rattle.modifiers.specs.declared.modifier.Modifier.{Modifier}
use Rattle.reports.specs.declared.Report.{Report}
use Rattle.verdicts.specs.Verdicts.{among, every_kind, packed}
use Rattle.checks.specs.Sayings.{Saying, disallowed_reports}
use Rattle.checks.specs.declared.class_check.ClassCheck.{ClassCheck}
use Rattle.checks.specs.declared.class_check.ClassCheck.TheVariants.{Element, JavaScript, StaticBlock, IndexSignature, ConstInOut, PrivateName, AccessorProperty, Accessor, Constructor, Method, Property}

-- every kind but some
abbrev pub all_but : List ModifierKind → List ModifierKind
all_but ks = filter (λ k. not (among k ks)) every_kind

-- the kinds that a check allows
abbrev pub allowed_in : ClassCheck → List ModifierKind
allowed_in Element = all_but (Export ∷ Default ∷ [])
allowed_in JavaScript = Static ∷ Async ∷ Default ∷ AccessorKind ∷ Export ∷ []
allowed_in StaticBlock = []
allowed_in IndexSignature = Static ∷ Readonly ∷ []
allowed_in ConstInOut = all_but (Const ∷ In ∷ Out ∷ [])
allowed_in PrivateName = all_but (Private ∷ Protected ∷ Public ∷ [])
allowed_in AccessorProperty = Private ∷ Protected ∷ Public ∷ Static ∷ Abstract ∷ Override ∷ AccessorKind ∷ []
allowed_in Accessor = all_but (Declare ∷ Readonly ∷ Async ∷ AccessorKind ∷ [])
allowed_in Constructor = all_but (Declare ∷ Readonly ∷ AccessorKind ∷ [])
allowed_in Method = all_but (Declare ∷ Readonly ∷ AccessorKind ∷ [])
allowed_in Property = all_but (Async ∷ [])

-- whether just these are allowed, so that the report tells them
abbrev pub strict_in : ClassCheck → Bool
strict_in Element = false
strict_in JavaScript = false
strict_in StaticBlock = false
strict_in IndexSignature = true
strict_in ConstInOut = false
strict_in PrivateName = false
strict_in AccessorProperty = true
strict_in Accessor = false
strict_in Constructor = false
strict_in Method = false
strict_in Property = false

-- the rule that a check says of a kind; where it says different rules, the last one also of the kinds that it never
-- disallows
abbrev pub rule_in : ClassCheck → ModifierKind → ℕ
rule_in Element k = 6
rule_in JavaScript k = 7
rule_in StaticBlock k = 8
rule_in IndexSignature k = 9
rule_in ConstInOut k = cond (same_kind k Const) 10 11
rule_in PrivateName k = 12
rule_in AccessorProperty k = 13
rule_in Accessor k = cond (same_kind k AccessorKind) 14 (cond (same_kind k Readonly) 17 15)
rule_in Constructor k = cond (same_kind k Declare) 16 (cond (same_kind k Readonly) 17 14)
rule_in Method k = cond (same_kind k Declare) 6 (cond (same_kind k Readonly) 17 14)
rule_in Property k = 15

-- the kinds that the method check tells as allowed
abbrev pub on_methods : List ModifierKind
on_methods = Private ∷ Protected ∷ Public ∷ Static ∷ Abstract ∷ Override ∷ Async ∷ []

-- the set that a report tells: the method check's own, or the one that the check gives
abbrev pub told_in : ClassCheck → Option ℕ → Option ℕ
told_in Element g = g
told_in JavaScript g = None
told_in StaticBlock g = g
told_in IndexSignature g = g
told_in ConstInOut g = None
told_in PrivateName g = g
told_in AccessorProperty g = g
told_in Accessor g = g
told_in Constructor g = None
told_in Method g = Some (packed on_methods)
told_in Property g = g

abbrev pub says_in : ClassCheck → ModifierKind → Option ℕ → Saying
says_in c k g = record { rule = rule_in c k; tells = told_in c g }

-- what a check of class members reports of a keyword list
unfoldable pub check_reports : ClassCheck → List Modifier → List Report
check_reports c ms = disallowed_reports (packed (allowed_in c)) (strict_in c) (says_in c) ms
