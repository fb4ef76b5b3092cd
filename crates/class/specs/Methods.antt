-- What is reported of methods, getters, setters and constructors.
use Rattle.std.specs.Prelude.{ℕ, Bool, true, false, cond, not, ◌&&◌, List, [], ◌∷◌, ◌++◌, is_some, Some, None, Option, ◌==◌}
use Rattle.kinds.specs.Flags.{flag_number}
use Rattle.kinds.specs.declared.context.ContextFlag.TheVariants.{Ambient}
use Rattle.kinds.specs.declared.modifier_kind.ModifierKind.TheVariants.{Abstract, Async, Override, Static}
use Rattle.modifiers.specs.Entries.{accessibility_of, keeps}
use Rattle.modifiers.specs.declared.modifier.Modifier.{Modifier}
use Rattle.parts.specs.declared.MethodFacts.{MethodFacts}
use Rattle.parts.specs.declared.ReturnType.{ReturnType}
use Rattle.parts.specs.declared.Span.{Span}
use Rattle.records.specs.declared.record.Method.{Method}
use Rattle.records.specs.declared.record.NameKind.{NameKind}
use Rattle.records.specs.declared.record.NameKind.TheVariants.{Identifier, String, Number, Private, Computed}
use Rattle.reports.specs.Reports.{at_place}
use Rattle.reports.specs.declared.Report.{Report}
use Rattle.small_set.specs.Members.{member}
use Rattle.class.specs.Noting.{report_at, report_if}
use Rattle.class.specs.declared.judging.AccessorKind.{AccessorKind}
use Rattle.class.specs.declared.judging.AccessorKind.TheVariants.{Getter, Setter}
use Rattle.class.specs.declared.judging.Judged.{Judged}
use Rattle.class.specs.declared.naming.ReadName.{ReadName}
use Rattle.class.specs.declared.naming.SpecialName.{SpecialName}
use Rattle.class.specs.declared.naming.SpecialName.TheVariants.{Constructor, Prototype}

-- whether a context, by its bits, is ambient
abbrev pub is_ambient : ℕ → Bool
is_ambient c = member c (flag_number Ambient)

abbrev pub is_private : NameKind → Bool
is_private Identifier = false
is_private String = false
is_private Number = false
is_private Private = true
is_private Computed = false

-- a method of a name, with the keywords that were kept before it
unfoldable pub method_of : ReadName → List Modifier → Bool → Bool → MethodFacts → Method
method_of n ms opt star facts =
    record {
      name = n.name;
      accessibility = accessibility_of ms;
      is_static = keeps Static ms;
      is_abstract = keeps Abstract ms;
      is_override = keeps Override ms;
      optional = opt;
      is_async = keeps Async ms;
      generator = star;
      facts = facts;
    }

-- a method of a name in a context, by its bits
abbrev pub judge : Method → ReadName → ℕ → Judged
judge m n c = record { method = m; ambient = is_ambient c; special = n.special }

-- a member with the PropName `constructor` that is not static: 39 to 43
abbrev pub constructor_name_reports : Option AccessorKind → Method → List Report
constructor_name_reports accessor m =
    report_if (is_some accessor) 39 m.name.span
    ++ (report_if m.is_async 40 m.name.span
    ++ (report_if m.generator 41 m.name.span
    ++ (report_if m.is_abstract 42 m.name.span
    ++ report_at 43 (cond (is_some accessor) None m.facts.type_parameters))))

-- what its PropName earns: 28 where it is static, 39 to 43 where it is not
abbrev pub prop_name_reports : Option AccessorKind → Bool → Option SpecialName → Method → List Report
prop_name_reports accessor ambient None m = []
prop_name_reports accessor ambient (Some Constructor) m = cond m.is_static [] (constructor_name_reports accessor m)
prop_name_reports accessor ambient (Some Prototype) m = cond m.is_static (report_if (not ambient) 28 m.name.span) []

-- an empty place
abbrev pub empty_at : ℕ → Span
empty_at n = record { start = n; end = n }

-- a body in an ambient context: 44
abbrev pub body_reports : Bool → Option ℕ → List Report
body_reports ambient None = []
body_reports ambient (Some n) = report_if ambient 44 (empty_at n)

-- what every method earns, also a getter, a setter and a constructor
unfoldable pub method_reports : Option AccessorKind → Bool → Option SpecialName → Method → List Report
method_reports accessor ambient special m =
    report_if (m.is_abstract && is_private m.name.kind) 29 m.name.span
    ++ (prop_name_reports accessor ambient special m ++ body_reports ambient m.facts.body_start)

-- a getter: 32 for type parameters, else 33 for parameters
abbrev pub getter_reports : Option Span → MethodFacts → List Report
getter_reports (Some p) f = at_place 32 p ∷ []
getter_reports None f = report_if (not (f.count == 0)) 33 f.parameters

-- the one parameter of a setter in TypeScript: 37 if it is optional, else 38 if it has an initializer (where there is one
-- parameter and no rest, there is a first item: see `setter_item`)
abbrev pub item_reports : Option Span → MethodFacts → List Report
item_reports None f = []
item_reports (Some p) f = cond f.first_optional (at_place 37 p ∷ []) (report_if f.first_initializer 38 f.parameters)

-- before that, 36 for a return annotation
abbrev pub annotation_reports : Option ReturnType → MethodFacts → List Report
annotation_reports (Some r) f = at_place 36 r.annotation ∷ []
annotation_reports None f = item_reports f.first_item f

-- before that, in any script, 35 for a rest
abbrev pub rest_reports : Bool → Option Span → MethodFacts → List Report
rest_reports ts (Some p) f = at_place 35 p ∷ []
rest_reports ts None f = cond ts (annotation_reports f.return_type f) []

-- a setter: 32 for type parameters, else 34 unless it has one parameter
abbrev pub setter_reports : Bool → Option Span → MethodFacts → List Report
setter_reports ts (Some p) f = at_place 32 p ∷ []
setter_reports ts None f = cond (f.count == 1) (rest_reports ts f.rest f) (at_place 34 f.parameters ∷ [])

-- a rule for an abstract one that has a body
abbrev pub abstract_reports : ℕ → Method → List Report
abstract_reports rule m = report_if (m.is_abstract && is_some m.facts.body_start) rule m.name.span

-- what the type parameters and the parameters of a getter or a setter earn
abbrev pub parameter_reports : Bool → AccessorKind → MethodFacts → List Report
parameter_reports ts Getter f = getter_reports f.type_parameters f
parameter_reports ts Setter f = setter_reports ts f.type_parameters f

-- what a getter or a setter earns
unfoldable pub accessor_reports : Bool → AccessorKind → Bool → Option SpecialName → Method → List Report
accessor_reports ts kind ambient special m = method_reports (Some kind) ambient special m ++ (parameter_reports ts kind m.facts ++ abstract_reports 45 m)

-- the type that a return annotation tells
abbrev pub type_in : Option ReturnType → Option Span
type_in None = None
type_in (Some r) = Some r.type_span

-- what a constructor earns: also 47 for a `this` parameter and 48 for a return type
unfoldable pub constructor_reports : Bool → Option SpecialName → Method → List Report
constructor_reports ambient special m = method_reports None ambient special m ++ (report_at 47 m.facts.this_param ++ report_at 48 (type_in m.facts.return_type))

-- what any other method earns
unfoldable pub plain_reports : Bool → Option SpecialName → Method → List Report
plain_reports ambient special m = method_reports None ambient special m ++ abstract_reports 46 m
