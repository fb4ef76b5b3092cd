-- Members: which form stands there, and the member as a whole.
use Rattle.std.specs.Prelude.{ℕ, Bool, true, false, cond, not, ◌&&◌, ◌||◌, List, [], is_some, Some, None, Ok, Err, Option, Result}
use Rattle.dialogue.specs.Dialogues.{Dialogue, ask_index, done, last, look, note, peek, stop, take_keywords, take_semicolons, test, then}
use Rattle.dialogue.specs.declared.Fatal.{Fatal}
use Rattle.dialogue.specs.declared.Fatal.TheVariants.{Unexpected}
use Rattle.guard.specs.Changes.{changed_bits}
use Rattle.guard.specs.declared.change.Change.TheVariants.{Ambient}
use Rattle.keywords.specs.declared.ListSettings.{ListSettings}
use Rattle.kinds.specs.declared.modifier_kind.ModifierKind.TheVariants.{Declare, Static}
use Rattle.modifiers.specs.Entries.{keeps}
use Rattle.modifiers.specs.declared.modifier.Modifier.{Modifier}
use Rattle.parts.specs.declared.Span.{Span}
use Rattle.records.specs.Told.{Told, told_by}
use Rattle.records.specs.declared.record.Form.{Form}
use Rattle.records.specs.declared.record.Form.TheVariants.{Accessor, Constructor, Getter, IndexSignature, Method, Property, Setter, StaticBlock}
use Rattle.records.specs.declared.record.MemberRecord.{MemberRecord}
use Rattle.records.specs.declared.record.NameKind.TheVariants.{Identifier, String}
use Rattle.token.specs.Kinds.{can_follow_get_or_set, is_identifier_or_keyword, k_constructor, k_get, k_lbrack, k_lcurly, k_lparen, k_rcurly, k_set, k_star, k_static, k_str}
use Rattle.token.specs.Spans.{span_of}
use Rattle.token.specs.declared.Token.{Token}
use Rattle.class.specs.Decorating.{decorator_reports}
use Rattle.class.specs.Forms.{accessor_d, block_d, constructor_d, element_checks_d, index_d, taken_d}
use Rattle.class.specs.Naming.{is_constructor_name, named, special_of}
use Rattle.class.specs.Properties.{property_or_method_d}
use Rattle.class.specs.Taking.{decorators_d, is_kind}
use Rattle.class.specs.declared.judging.AccessorKind.TheVariants.{Getter as AGetter, Setter as ASetter}
use Rattle.class.specs.declared.naming.ReadName.{ReadName}

-- what a property or a method starts with: a name of any sort, `*` or `[`
abbrev pub starts_name : Token → Bool
starts_name t = is_identifier_or_keyword t.kind.code || (is_kind k_star t.kind.code || is_kind k_lbrack t.kind.code)

-- a property or a method, in an ambient context after `declare`; else 51
unfoldable pub named_form_d : Bool → ℕ → List Modifier → Dialogue Form
named_form_d ts c ms =
    look (λ t. test (starts_name t)
    (test (keeps Declare ms) (property_or_method_d ts (changed_bits Ambient c) ms) (property_or_method_d ts c ms))
    (stop Unexpected (span_of t)))

-- an index signature where one starts; else a property or a method
unfoldable pub index_or_named_d : Bool → ℕ → List Modifier → List Span → Dialogue Form
index_or_named_d ts c ms ds = ask_index c (λ b. test b (index_d c ms ds) (then (element_checks_d ts ms) (λ _. named_form_d ts c ms)))

-- the name of a constructor: `constructor`, or a string of it before `(`, where `static` is not kept
abbrev pub is_constructor : List Modifier → Token → Token → Bool
is_constructor ms t n =
    not (keeps Static ms) && (is_kind k_constructor t.kind.code || (is_kind k_str t.kind.code && (is_constructor_name (special_of t.name) && is_kind k_lparen n.kind.code)))

abbrev pub constructor_name : Token → ReadName
constructor_name t = named (cond (is_kind k_str t.kind.code) String Identifier) (span_of t) (special_of t.name)

unfoldable pub constructor_or_other_d : Bool → ℕ → List Modifier → List Span → Token → Token → Dialogue Form
constructor_or_other_d ts c ms ds t n = test (is_constructor ms t n) (taken_d (constructor_d ts c ms ds (constructor_name t))) (index_or_named_d ts c ms ds)

-- `get` or `set` before what can follow it
abbrev pub is_accessor : ℕ → Token → Token → Bool
is_accessor k t n = is_kind k t.kind.code && can_follow_get_or_set n.kind.code

unfoldable pub accessor_or_other_d : Bool → ℕ → List Modifier → List Span → Token → Token → Dialogue Form
accessor_or_other_d ts c ms ds t n =
    test (is_accessor k_get t n) (taken_d (accessor_d ts c ms AGetter))
    (test (is_accessor k_set t n) (taken_d (accessor_d ts c ms ASetter)) (constructor_or_other_d ts c ms ds t n))

-- `static` before `{`
abbrev pub is_block : Token → Token → Bool
is_block t n = is_kind k_static t.kind.code && is_kind k_lcurly n.kind.code

-- ClassElement after its decorators and keywords
unfoldable pub form_d : Bool → ℕ → List Modifier → List Span → Dialogue Form
form_d ts c ms ds = look (λ t. peek (λ n. test (is_block t n) (block_d c ms ds) (accessor_or_other_d ts c ms ds t n)))

-- a method, getter, setter or constructor without body
abbrev pub is_bodiless : Form → Bool
is_bodiless (Method m) = not (is_some m.facts.body_start)
is_bodiless (Getter m) = not (is_some m.facts.body_start)
is_bodiless (Setter m) = not (is_some m.facts.body_start)
is_bodiless (Constructor m) = not (is_some m.facts.body_start)
is_bodiless (Property p) = false
is_bodiless (Accessor a) = false
is_bodiless (IndexSignature s r p) = false
is_bodiless (StaticBlock p) = false

-- the forms that hold decorators: all but index signatures and static blocks
abbrev pub holds_decorators : Form → Bool
holds_decorators (Method m) = true
holds_decorators (Getter m) = true
holds_decorators (Setter m) = true
holds_decorators (Constructor m) = true
holds_decorators (Property p) = true
holds_decorators (Accessor a) = true
holds_decorators (IndexSignature s r p) = false
holds_decorators (StaticBlock p) = false

-- some decorators, if something holds
abbrev pub decorators_if : Bool → List Span → List Span
decorators_if b ds = cond b ds []

abbrev pub told : ℕ → ℕ → List Modifier → List Span → Form → Told
told start end ms ds f = record { span = record { start = start; end = end }; kept = ms; decorators = decorators_if (holds_decorators f) ds; form = f }

-- a member that was read: 18 at each decorator of one without body
unfoldable pub member_end_d : ℕ → List Modifier → List Span → Form → Dialogue (Option Told)
member_end_d start ms ds f = note (decorator_reports 18 (decorators_if (is_bodiless f) ds)) (last (λ e. done (Some (told start e ms ds f))))

-- `const` can be a keyword before a member, and `static {` is none
abbrev pub member_settings : ListSettings
member_settings = record { const_allowed = true; static_block_ends = true }

-- after its decorators
unfoldable pub decorated_d : Bool → ℕ → ℕ → List Span → Dialogue (Option Told)
decorated_d ts c start ds = take_keywords member_settings (λ ms. then (form_d ts c ms ds) (member_end_d start ms ds))

-- a member, or none before `}`
unfoldable pub member_d : Bool → ℕ → Dialogue (Option Told)
member_d ts c =
    take_semicolons (look (λ t. test (is_kind k_rcurly t.kind.code) (done None) (then (decorators_d c 16 []) (decorated_d ts c t.start))))

-- what a record tells, if there is one
abbrev pub told_of : Option MemberRecord → Option Told
told_of None = None
told_of (Some r) = Some (told_by r)

-- and where it was read without a fatal rule
abbrev pub told_in : Result (Option MemberRecord) Fatal → Result (Option Told) Fatal
told_in (Err f) = Err f
told_in (Ok n) = Ok (told_of n)
