-- The forms of members that have a body, a block or an index.
use Rattle.std.specs.Prelude.{ℕ, Bool, true, false, List}
use Rattle.checks.specs.declared.class_check.ClassCheck.TheVariants.{Accessor, ConstInOut, Constructor, Element, IndexSignature, JavaScript, Method, StaticBlock}
use Rattle.dialogue.specs.Dialogues.{Dialogue, check, done, eat, note, stop, test, then}
use Rattle.dialogue.specs.declared.Fatal.TheVariants.{Unexpected}
use Rattle.guard.specs.Changes.{changed_bits}
use Rattle.guard.specs.declared.change.Change.TheVariants.{StaticBlock as InBlock}
use Rattle.kinds.specs.declared.modifier_kind.ModifierKind.TheVariants.{Readonly, Static}
use Rattle.modifiers.specs.Entries.{keeps}
use Rattle.modifiers.specs.declared.modifier.Modifier.{Modifier}
use Rattle.parts.specs.declared.MethodFacts.{MethodFacts}
use Rattle.parts.specs.declared.Part.TheVariants.{Block, IndexRest}
use Rattle.parts.specs.declared.Span.{Span}
use Rattle.records.specs.declared.record.Form.{Form}
use Rattle.records.specs.declared.record.Form.TheVariants.{Getter as AGetter, Setter as ASetter, Constructor as AConstructor, Method as AMethod, IndexSignature as AnIndex, StaticBlock as ABlock}
use Rattle.records.specs.declared.record.Method.{Method as Facts}
use Rattle.class.specs.Decorating.{decorator_reports}
use Rattle.class.specs.Methods.{accessor_reports, constructor_reports, is_ambient, method_of, plain_reports}
use Rattle.class.specs.Naming.{name_d}
use Rattle.class.specs.Taking.{method_d, part_d}
use Rattle.token.specs.Spans.{span_of}
use Rattle.class.specs.declared.judging.AccessorKind.{AccessorKind}
use Rattle.class.specs.declared.judging.AccessorKind.TheVariants.{Getter, Setter}
use Rattle.class.specs.declared.naming.ReadName.{ReadName}

-- what no member has: `export` and `default`; in JavaScript, a keyword of TypeScript
unfoldable pub element_checks_d : Bool → List Modifier → Dialogue Unit
element_checks_d ts ms = check Element ms (test ts (done tt) (check JavaScript ms (done tt)))

abbrev pub accessor_form : AccessorKind → Facts → Form
accessor_form Getter m = AGetter m
accessor_form Setter m = ASetter m

-- a getter or a setter that was read
unfoldable pub accessor_end_d : Bool → ℕ → List Modifier → AccessorKind → ReadName → MethodFacts → Dialogue Form
accessor_end_d ts c ms kind n f =
    note (accessor_reports ts kind (is_ambient c) n.special (method_of n ms false false f))
    (check Accessor ms (done (accessor_form kind (method_of n ms false false f))))

-- after its name
unfoldable pub accessor_rest_d : Bool → ℕ → List Modifier → AccessorKind → ReadName → Dialogue Form
accessor_rest_d ts c ms kind n = then (method_d c) (accessor_end_d ts c ms kind n)

-- after `get` or `set`
unfoldable pub accessor_d : Bool → ℕ → List Modifier → AccessorKind → Dialogue Form
accessor_d ts c ms kind = then (element_checks_d ts ms) (λ _. then (name_d ts c ms) (accessor_rest_d ts c ms kind))

-- a constructor that was read
unfoldable pub constructor_end_d : ℕ → List Modifier → ReadName → MethodFacts → Dialogue Form
constructor_end_d c ms n f = note (constructor_reports (is_ambient c) n.special (method_of n ms false false f)) (done (AConstructor (method_of n ms false false f)))

unfoldable pub constructor_rest_d : ℕ → List Modifier → ReadName → Dialogue Form
constructor_rest_d c ms n = then (method_d c) (constructor_end_d c ms n)

-- after its name: it has no decorators
unfoldable pub constructor_d : Bool → ℕ → List Modifier → List Span → ReadName → Dialogue Form
constructor_d ts c ms ds n =
    note (decorator_reports 19 ds)
    (then (element_checks_d ts ms) (λ _. check ConstInOut ms (check Constructor ms (constructor_rest_d c ms n))))

-- any other method that was read
unfoldable pub method_end_d : ℕ → List Modifier → Bool → Bool → ReadName → MethodFacts → Dialogue Form
method_end_d c ms opt star n f = note (plain_reports (is_ambient c) n.special (method_of n ms opt star f)) (done (AMethod (method_of n ms opt star f)))

-- after its name
unfoldable pub method_form_d : ℕ → List Modifier → Bool → Bool → ReadName → Dialogue Form
method_form_d c ms opt star n = check Method ms (then (method_d c) (method_end_d c ms opt star n))

-- an index signature: it has no decorators
unfoldable pub index_d : ℕ → List Modifier → List Span → Dialogue Form
index_d c ms ds =
    note (decorator_reports 19 ds)
    (check IndexSignature ms (then (part_d IndexRest c) (λ p. done (AnIndex (keeps Static ms) (keeps Readonly ms) p))))

-- any kind
abbrev pub any_kind : ℕ → Bool
any_kind k = true

-- the current token, whatever it is, and what follows it (every kind passes, so the second way never comes up)
abbrev pub taken_d : {A : Type 0} → Dialogue A → Dialogue A
taken_d d = eat any_kind (λ _. d) (λ t. stop Unexpected (span_of t))

-- ClassStaticBlock, from `static` on: it has no decorators and no keywords
unfoldable pub block_d : ℕ → List Modifier → List Span → Dialogue Form
block_d c ms ds =
    note (decorator_reports 19 ds)
    (check StaticBlock ms (taken_d (then (part_d Block (changed_bits InBlock c)) (λ p. done (ABlock p)))))
