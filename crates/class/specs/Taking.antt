-- The small pieces of every member: parts, names, optional tokens, semicolons.
use Rattle.std.specs.Prelude.{ℕ, zero, suc, Bool, ◌&&◌, ◌||◌, List, [], ◌∷◌, ◌++◌, Some, None, Ok, Err, Option, Result, ◌==◌}
use Rattle.dialogue.specs.Dialogues.{Dialogue, done, eat, last, look, stop, take_method, take_part, test, then}
use Rattle.dialogue.specs.declared.Fatal.TheVariants.{AutoSemicolonInsertion, ExpectToken, TooManyDecorators, Unexpected}
use Rattle.guard.specs.Changes.{changed_bits}
use Rattle.guard.specs.declared.change.Change.TheVariants.{Initializer}
use Rattle.parts.specs.declared.MethodFacts.{MethodFacts}
use Rattle.parts.specs.declared.Part.{Part}
use Rattle.parts.specs.declared.Part.TheVariants.{Decorator, Expression, TypeAnnotation}
use Rattle.parts.specs.declared.Span.{Span}
use Rattle.token.specs.Kinds.{k_at, k_colon, k_eof, k_eq, k_question, k_rcurly, k_semicolon}
use Rattle.token.specs.Spans.{span_of}
use Rattle.token.specs.declared.Token.{Token}

abbrev pub is_kind : ℕ → ℕ → Bool
is_kind k j = j == k

-- what a part told, or 51 where it was refused
abbrev pub told_part : {F : Type 0} → Result F Span → Dialogue F
told_part (Ok f) = done f
told_part (Err p) = stop Unexpected p

-- a part in a context
unfoldable pub part_d : Part → ℕ → Dialogue Span
part_d p c = take_part p c told_part

-- the rest of a method
unfoldable pub method_d : ℕ → Dialogue MethodFacts
method_d c = take_method c told_part

-- decorators while `@` stands there, n more at most: the next one is 52
unfoldable pub decorators_d : ℕ → ℕ → List Span → Dialogue (List Span)
decorators_d c zero ds = look (λ t. test (is_kind k_at t.kind.code) (stop TooManyDecorators (span_of t)) (done ds))
decorators_d c (suc n) ds = look (λ t. test (is_kind k_at t.kind.code) (then (part_d Decorator c) (λ d. decorators_d c n (ds ++ (d ∷ [])))) (done ds))

-- a token of a kind, if it stands there
unfoldable pub optional_d : ℕ → Dialogue (Option Span)
optional_d k = eat (is_kind k) (λ t. done (Some (span_of t))) (λ t. done None)

-- `?`, in TypeScript
unfoldable pub question_d : Bool → Dialogue (Option Span)
question_d ts = test ts (optional_d k_question) (done None)

-- a type annotation at `:`, in TypeScript
unfoldable pub type_d : Bool → ℕ → Dialogue (Option Span)
type_d ts c = look (λ t. test (ts && is_kind k_colon t.kind.code) (then (part_d TypeAnnotation c) (λ s. done (Some s))) (done None))

-- an initializer after `=`
unfoldable pub value_d : ℕ → Dialogue (Option Span)
value_d c = eat (is_kind k_eq) (λ t. then (part_d Expression (changed_bits Initializer c)) (λ s. done (Some s))) (λ t. done None)

-- a semicolon can be inserted before `}`, Eof or a token after a line break
abbrev pub can_insert : Token → Bool
can_insert t = is_kind k_rcurly t.kind.code || (is_kind k_eof t.kind.code || t.line_break)

-- a semicolon, given or inserted; else what is done at the token without
abbrev pub semicolon_or_d : (Token → Dialogue Unit) → Dialogue Unit
semicolon_or_d missing = eat (is_kind k_semicolon) (λ t. done tt) (λ t. test (can_insert t) (done tt) (missing t))

-- a semicolon, given or inserted; else 49 at the token
unfoldable pub semicolon_d : Dialogue Unit
semicolon_d = semicolon_or_d (λ t. stop ExpectToken (span_of t))

-- the same of an accessor property; else 50, empty at the end of the last token taken
unfoldable pub inserted_d : Dialogue Unit
inserted_d = semicolon_or_d (λ t. last (λ e. stop AutoSemicolonInsertion (record { start = e; end = e })))
