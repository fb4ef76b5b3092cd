-- Modifier keywords: their numbers and the words that they are written as.
use Rattle.std.specs.Prelude.{ℕ, Bool, false, ◌||◌, List, [], ◌∷◌, codes, ◌==◌, slice_index_or}
use Rattle.kinds.specs.declared.modifier_kind.ModifierKind.{ModifierKind}
use Rattle.kinds.specs.declared.modifier_kind.ModifierKind.TheVariants.{Declare, Private, Protected, Public, Static, Readonly, Abstract, Override, Async, Const, In, Out, Default, Accessor, Export}

-- the number of a modifier: its bit in a set of modifiers
abbrev pub modifier_number : ModifierKind → ℕ
modifier_number Declare = 0
modifier_number Private = 1
modifier_number Protected = 2
modifier_number Public = 3
modifier_number Static = 4
modifier_number Readonly = 5
modifier_number Abstract = 6
modifier_number Override = 7
modifier_number Async = 8
modifier_number Const = 9
modifier_number In = 10
modifier_number Out = 11
modifier_number Default = 12
modifier_number Accessor = 13
modifier_number Export = 14

-- the bytes of the word that a modifier is written as
abbrev pub word_of : ModifierKind → List ℕ
word_of Declare = codes "declare"
word_of Private = codes "private"
word_of Protected = codes "protected"
word_of Public = codes "public"
word_of Static = codes "static"
word_of Readonly = codes "readonly"
word_of Abstract = codes "abstract"
word_of Override = codes "override"
word_of Async = codes "async"
word_of Const = codes "const"
word_of In = codes "in"
word_of Out = codes "out"
word_of Default = codes "default"
word_of Accessor = codes "accessor"
word_of Export = codes "export"

-- whether two kinds are the same
abbrev pub same_kind : ModifierKind → ModifierKind → Bool
same_kind a b = modifier_number a == modifier_number b

-- whether one of some kinds passes a test
abbrev pub any_of : (ModifierKind → Bool) → List ModifierKind → Bool
any_of test [] = false
any_of test (k ∷ ks) = test k || any_of test ks

abbrev pub among : ModifierKind → List ModifierKind → Bool
among k = any_of (λ x. same_kind x k)

-- every kind, in the order of their numbers
abbrev pub every_kind : List ModifierKind
every_kind = Declare ∷ Private ∷ Protected ∷ Public ∷ Static ∷ Readonly ∷ Abstract ∷ Override ∷ Async ∷ Const ∷ In ∷ Out ∷ Default ∷ Accessor ∷ Export ∷ []

-- the kind with a number
abbrev pub kind_at : ℕ → ModifierKind
kind_at n = slice_index_or every_kind n Declare
