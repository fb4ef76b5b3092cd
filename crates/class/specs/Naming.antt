-- Names: ClassElementName and PropertyName.
use Rattle.std.specs.Prelude.{ℕ, Bool, true, false, cond, List, Some, None, Option, ◌==◌}
use Rattle.checks.specs.declared.class_check.ClassCheck.TheVariants.{ConstInOut, PrivateName}
use Rattle.dialogue.specs.Dialogues.{Dialogue, check, done, eat, note, stop, test, then}
use Rattle.dialogue.specs.declared.Fatal.TheVariants.{ExpectToken, Unexpected}
use Rattle.guard.specs.Changes.{changed_bits}
use Rattle.guard.specs.declared.change.Change.TheVariants.{ComputedName}
use Rattle.modifiers.specs.declared.modifier.Modifier.{Modifier}
use Rattle.parts.specs.declared.Part.TheVariants.{Expression}
use Rattle.parts.specs.declared.Span.{Span}
use Rattle.records.specs.declared.record.NameKind.{NameKind}
use Rattle.records.specs.declared.record.NameKind.TheVariants.{Identifier, String, Number, Private, Computed}
use Rattle.token.specs.Kinds.{is_identifier_name, is_number, k_lbrack, k_private_identifier, k_rbrack, k_str}
use Rattle.token.specs.Spans.{span_of}
use Rattle.token.specs.declared.Token.{Token}
use Rattle.class.specs.Noting.{report_if}
use Rattle.class.specs.Taking.{is_kind, part_d}
use Rattle.class.specs.declared.naming.ReadName.{ReadName}
use Rattle.class.specs.declared.naming.SpecialName.{SpecialName}
use Rattle.class.specs.declared.naming.SpecialName.TheVariants.{Constructor, Prototype}

-- the special PropName that a name code tells: 1 for `constructor`, 2 for `prototype`
abbrev pub special_of : ℕ → Option SpecialName
special_of code = cond (code == 1) (Some Constructor) (cond (code == 2) (Some Prototype) None)

abbrev pub is_constructor_name : Option SpecialName → Bool
is_constructor_name None = false
is_constructor_name (Some Constructor) = true
is_constructor_name (Some Prototype) = false

abbrev pub is_prototype_name : Option SpecialName → Bool
is_prototype_name None = false
is_prototype_name (Some Constructor) = false
is_prototype_name (Some Prototype) = true

-- a name of a kind at a place, with the special PropName that it is: none where it has no PropName or another
abbrev pub named : NameKind → Span → Option SpecialName → ReadName
named k p n = record { name = record { kind = k; span = p }; special = n }

-- `]` after the expression of a computed name; else 49
unfoldable pub closed_d : Span → Dialogue ReadName
closed_d p = eat (is_kind k_rbrack) (λ t. done (named Computed p None)) (λ t. stop ExpectToken (span_of t))

-- ComputedPropertyName, after `[`
unfoldable pub computed_d : ℕ → Dialogue ReadName
computed_d c = then (part_d Expression (changed_bits ComputedName c)) closed_d

-- PropertyName: a string, a number, a computed name or an identifier name; else 51
unfoldable pub property_name_d : ℕ → Dialogue ReadName
property_name_d c =
    eat (is_kind k_str) (λ t. done (named String (span_of t) (special_of t.name)))
    (λ _. eat is_number (λ t. done (named Number (span_of t) None))
    (λ _. eat (is_kind k_lbrack) (λ _. computed_d c)
    (λ _. eat is_identifier_name (λ t. done (named Identifier (span_of t) (special_of t.name)))
    (λ t. stop Unexpected (span_of t)))))

-- a PrivateIdentifier that was taken: 20 where it is `#constructor`
unfoldable pub private_name_d : Token → Dialogue ReadName
private_name_d t = note (report_if (is_constructor_name (special_of t.name)) 20 (span_of t)) (done (named Private (span_of t) None))

-- in TypeScript it has no accessibility keyword
unfoldable pub private_d : Bool → List Modifier → Token → Dialogue ReadName
private_d ts ms t = test ts (check PrivateName ms (private_name_d t)) (private_name_d t)

-- ClassElementName, after no `const`, `in` or `out`
unfoldable pub name_d : Bool → ℕ → List Modifier → Dialogue ReadName
name_d ts c ms = check ConstInOut ms (eat (is_kind k_private_identifier) (private_d ts ms) (λ _. property_name_d c))
