-- The table of the checks of class members, kind by kind.
use Rattle.std.proofs.Common.{◌≡◌, ℕ, Bool, true, false, ◌||◌, eqb, Some, None, Option, refl, ap, ⊎_elim, arith}
use Rattle.std.proofs.lemmas.Bool.{both_ways, eqb-true, or_cases}
use Rattle.checks.specs.ClassChecks.{allowed_in, rule_in}
use Rattle.checks.specs.Laws.{NoFiller, SetsStand, named_in}
use Rattle.checks.specs.declared.class_check.ClassCheck.{ClassCheck}
use Rattle.checks.specs.declared.class_check.ClassCheck.TheVariants.{Element, JavaScript, StaticBlock, IndexSignature, ConstInOut, PrivateName, AccessorProperty, Accessor, Constructor, Method, Property}
use Rattle.kinds.specs.Modifiers.{modifier_number}
use Rattle.kinds.specs.declared.modifier_kind.ModifierKind.{ModifierKind}
use Rattle.small_set.specs.Members.{member}
use Rattle.verdicts.proofs.Pairs.{agree, agree_same, each_kind}
use Rattle.verdicts.specs.Verdicts.{among, packed}

abbrev is_rule : Option ℕ → ℕ → Bool
is_rule None n = false
is_rule (Some m) n = eqb m n

is_rule_lem : (o : Option ℕ) (n : ℕ) → is_rule o n ≡ true → o ≡ Some n
is_rule_lem None n h = let z : ◌≡◌ {A = ℕ} 0 1 = cc in absurd (omega arith)
is_rule_lem (Some m) n h = ap Some (eqb-true m n h)

abbrev fair : ClassCheck → ModifierKind → Bool
fair c k = among k (allowed_in c) || is_rule (named_in c k) (rule_in c k)

all_fair : (c : ClassCheck) (k : ModifierKind) → fair c k ≡ true
all_fair Element = each_kind (fair Element) refl
all_fair JavaScript = each_kind (fair JavaScript) refl
all_fair StaticBlock = each_kind (fair StaticBlock) refl
all_fair IndexSignature = each_kind (fair IndexSignature) refl
all_fair ConstInOut = each_kind (fair ConstInOut) refl
all_fair PrivateName = each_kind (fair PrivateName) refl
all_fair AccessorProperty = each_kind (fair AccessorProperty) refl
all_fair Accessor = each_kind (fair Accessor) refl
all_fair Constructor = each_kind (fair Constructor) refl
all_fair Method = each_kind (fair Method) refl
all_fair Property = each_kind (fair Property) refl

pub no_filler : NoFiller
no_filler c k h =
    ⊎_elim (λ a. absurd (both_ways (among k (allowed_in c)) h a)) (is_rule_lem (named_in c k) (rule_in c k))
    (or_cases (among k (allowed_in c)) (is_rule (named_in c k) (rule_in c k)) (all_fair c k))

abbrev listed : ClassCheck → ModifierKind → Bool
listed c k = agree (member (packed (allowed_in c)) (modifier_number k)) (among k (allowed_in c))

all_listed : (c : ClassCheck) (k : ModifierKind) → listed c k ≡ true
unfolding member
all_listed Element = each_kind (listed Element) refl
all_listed JavaScript = each_kind (listed JavaScript) refl
all_listed StaticBlock = each_kind (listed StaticBlock) refl
all_listed IndexSignature = each_kind (listed IndexSignature) refl
all_listed ConstInOut = each_kind (listed ConstInOut) refl
all_listed PrivateName = each_kind (listed PrivateName) refl
all_listed AccessorProperty = each_kind (listed AccessorProperty) refl
all_listed Accessor = each_kind (listed Accessor) refl
all_listed Constructor = each_kind (listed Constructor) refl
all_listed Method = each_kind (listed Method) refl
all_listed Property = each_kind (listed Property) refl

pub sets_stand : SetsStand
sets_stand c k = agree_same (member (packed (allowed_in c)) (modifier_number k)) (among k (allowed_in c)) (all_listed c k)
