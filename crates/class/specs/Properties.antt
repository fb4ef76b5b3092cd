-- Properties and accessor properties.
use Rattle.std.specs.Prelude.{ℕ, Bool, true, false, cond, not, ◌&&◌, ◌||◌, List, [], ◌∷◌, ◌++◌, is_some, Some, None, Option}
use Rattle.checks.specs.declared.class_check.ClassCheck.TheVariants.{AccessorProperty, Property as OnProperty}
use Rattle.dialogue.specs.Dialogues.{Dialogue, check, done, look, note, test, then}
use Rattle.keywords.specs.Run.{place_of}
use Rattle.kinds.specs.declared.modifier_kind.ModifierKind.TheVariants.{Abstract, Accessor as AccessorWord, Declare, Override, Readonly, Static}
use Rattle.modifiers.specs.Entries.{accessibility_of, entry_of, keeps}
use Rattle.modifiers.specs.declared.modifier.Modifier.{Modifier}
use Rattle.parts.specs.declared.Span.{Span}
use Rattle.records.specs.declared.record.Accessor.{Accessor}
use Rattle.records.specs.declared.record.Form.{Form}
use Rattle.records.specs.declared.record.Form.TheVariants.{Accessor as AnAccessor, Property as AProperty}
use Rattle.records.specs.declared.record.NameKind.{NameKind}
use Rattle.records.specs.declared.record.NameKind.TheVariants.{Identifier, String, Number, Private, Computed}
use Rattle.records.specs.declared.record.Property.{Property}
use Rattle.reports.specs.Reports.{at_place}
use Rattle.reports.specs.declared.Report.{Report}
use Rattle.token.specs.Kinds.{k_bang, k_langle, k_lparen, k_star}
use Rattle.token.specs.declared.Token.{Token}
use Rattle.class.specs.Forms.{method_form_d}
use Rattle.class.specs.Methods.{is_ambient, is_private}
use Rattle.class.specs.Naming.{is_constructor_name, is_prototype_name, name_d}
use Rattle.class.specs.Noting.{report_at, report_if}
use Rattle.class.specs.Taking.{inserted_d, is_kind, optional_d, question_d, semicolon_d, type_d, value_d}
use Rattle.class.specs.declared.naming.ReadName.{ReadName}
use Rattle.class.specs.declared.naming.SpecialName.{SpecialName}
use Rattle.class.specs.declared.properties.Typed.{Typed}

-- `!`: 21 before a value, else 22 without a type, else 23 where nothing is assigned later
abbrev pub definite_reports : Option Span → Option Span → Option Span → Bool → List Report
definite_reports None v t narrow = []
definite_reports (Some b) v t narrow = cond (is_some v) (at_place 21 b ∷ []) (cond (is_some t) (report_if narrow 23 b) (at_place 22 b ∷ []))

-- where nothing is assigned later: in an ambient context, and to a static or an abstract one
abbrev pub is_narrow : Bool → Bool → Bool → Bool
is_narrow ambient is_static is_abstract = ambient || (is_static || is_abstract)

-- a type annotation and an initializer
unfoldable pub typed_d : Bool → ℕ → Dialogue Typed
typed_d ts c = then (type_d ts c) (λ t. then (value_d c) (λ v. done (record { type_annotation = t; value = v })))

-- an accessor property of a name
unfoldable pub accessor_of : ReadName → List Modifier → Option Span → Typed → Accessor
accessor_of n ms bang tv =
    record {
      name = n.name;
      accessibility = accessibility_of ms;
      is_static = keeps Static ms;
      is_abstract = keeps Abstract ms;
      is_override = keeps Override ms;
      definite = is_some bang;
      type_annotation = tv.type_annotation;
      value = tv.value;
    }

abbrev pub accessor_property_reports : Bool → Option Span → Accessor → List Report
accessor_property_reports ambient bang a = definite_reports bang a.value a.type_annotation (is_narrow ambient a.is_static a.is_abstract)

-- an accessor property that was read: nothing is said of `!` after `declare`
unfoldable pub accessor_property_end_d : ℕ → List Modifier → ReadName → Option Span → Typed → Dialogue Form
accessor_property_end_d c ms n bang tv =
    check AccessorProperty ms
    (note (accessor_property_reports (is_ambient c) (cond (keeps Declare ms) None bang) (accessor_of n ms bang tv)) (done (AnAccessor (accessor_of n ms bang tv))))

unfoldable pub accessor_property_close_d : ℕ → List Modifier → ReadName → Option Span → Typed → Dialogue Form
accessor_property_close_d c ms n bang tv = then inserted_d (λ _. accessor_property_end_d c ms n bang tv)

-- after its name and marks
unfoldable pub accessor_property_d : Bool → ℕ → List Modifier → ReadName → Option Span → Dialogue Form
accessor_property_d ts c ms n bang = then (typed_d ts c) (accessor_property_close_d c ms n bang)

-- a property of a name
unfoldable pub property_of : ReadName → List Modifier → Option Span → Option Span → Typed → Property
property_of n ms q bang tv =
    record {
      name = n.name;
      accessibility = accessibility_of ms;
      is_static = keeps Static ms;
      is_abstract = keeps Abstract ms;
      is_override = keeps Override ms;
      declare = keeps Declare ms;
      readonly = keeps Readonly ms;
      optional = is_some q;
      definite = is_some bang;
      type_annotation = tv.type_annotation;
      value = tv.value;
    }

-- the place of a kept keyword
abbrev pub entry_place : Option Modifier → Option Span
entry_place None = None
entry_place (Some m) = Some (place_of m)

-- what its name earns: 27 for the PropName `constructor`, 28 for a static `prototype`, and for an abstract private one 29 at
-- the keyword
abbrev pub field_name_reports : Bool → Option SpecialName → Option Span → Property → List Report
field_name_reports ambient special keyword p =
    report_if (is_constructor_name special) 27 p.name.span
    ++ (report_if (p.is_static && (is_prototype_name special && not ambient)) 28 p.name.span
    ++ report_at 29 (cond (is_private p.name.kind) keyword None))

-- whether a value is not allowed for the ambient context
abbrev pub is_banned : Bool → Property → Bool
is_banned ambient p = ambient && not (p.readonly && not (is_some p.type_annotation))

-- what its value earns: 30 for an abstract one, 31 in an ambient context
abbrev pub initializer_reports : Bool → Property → List Report
initializer_reports ambient p = report_if (p.is_abstract && is_some p.value) 30 p.name.span ++ report_at 31 (cond (is_banned ambient p) p.value None)

unfoldable pub property_reports : Bool → Option SpecialName → Option Span → Option Span → Property → List Report
property_reports ambient special keyword bang p =
    field_name_reports ambient special keyword p
    ++ (initializer_reports ambient p ++ definite_reports bang p.value p.type_annotation (is_narrow ambient p.is_static p.is_abstract))

-- a property that was read
unfoldable pub property_end_d : ℕ → List Modifier → ReadName → Option Span → Option Span → Typed → Dialogue Form
property_end_d c ms n q bang tv =
    check OnProperty ms
    (note (property_reports (is_ambient c) n.special (entry_place (entry_of Abstract ms)) bang (property_of n ms q bang tv)) (done (AProperty (property_of n ms q bang tv))))

unfoldable pub property_close_d : ℕ → List Modifier → ReadName → Option Span → Option Span → Typed → Dialogue Form
property_close_d c ms n q bang tv = then semicolon_d (λ _. property_end_d c ms n q bang tv)

-- after its name and marks
unfoldable pub property_d : Bool → ℕ → List Modifier → ReadName → Option Span → Option Span → Dialogue Form
property_d ts c ms n q bang = then (typed_d ts c) (property_close_d c ms n q bang)

-- from the start of one to the end of the other
abbrev pub joined : Option Span → Option Span → Option Span
joined None b = None
joined (Some p) None = None
joined (Some p) (Some b) = Some (record { start = p.start; end = b.end })

abbrev pub is_string : NameKind → Bool
is_string Identifier = false
is_string String = true
is_string Number = false
is_string Private = false
is_string Computed = false

-- an accessor property: 25 at `?`, and 26 for the string name `constructor`
unfoldable pub accessor_name_reports : Option Span → ReadName → List Report
accessor_name_reports q n = report_at 25 q ++ report_if (is_string n.name.kind && is_constructor_name n.special) 26 n.name.span

unfoldable pub accessor_named_d : Bool → ℕ → List Modifier → ReadName → Option Span → Option Span → Dialogue Form
accessor_named_d ts c ms n q bang = note (accessor_name_reports q n) (accessor_property_d ts c ms n bang)

-- after its marks: 24 for both
unfoldable pub banged_d : Bool → ℕ → List Modifier → ReadName → Option Span → Option Span → Dialogue Form
banged_d ts c ms n q bang =
    note (report_at 24 (joined q bang))
    (test (keeps AccessorWord ms) (accessor_named_d ts c ms n q bang) (property_d ts c ms n q bang))

-- after its name and `?`
unfoldable pub definite_d : Bool → ℕ → List Modifier → ReadName → Option Span → Dialogue Form
definite_d ts c ms n q = then (optional_d k_bang) (banged_d ts c ms n q)

-- a method after `*`, or before `(` or `<`
abbrev pub is_method : Bool → Token → Bool
is_method star t = star || (is_kind k_lparen t.kind.code || is_kind k_langle t.kind.code)

unfoldable pub choice_d : Bool → ℕ → List Modifier → Bool → ReadName → Option Span → Dialogue Form
choice_d ts c ms star n q = look (λ t. test (is_method star t) (method_form_d c ms (is_some q) star n) (definite_d ts c ms n q))

-- after its name
unfoldable pub marked_d : Bool → ℕ → List Modifier → Bool → ReadName → Dialogue Form
marked_d ts c ms star n = then (question_d ts) (choice_d ts c ms star n)

-- a property or a method
unfoldable pub property_or_method_d : Bool → ℕ → List Modifier → Dialogue Form
property_or_method_d ts c ms = then (optional_d k_star) (λ star. then (name_d ts c ms) (marked_d ts c ms (is_some star)))
