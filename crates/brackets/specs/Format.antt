-- The bracket format: where each part of a class member ends, told by brackets alone. Contexts are ignored. A refusal is
-- at the first token that does not fit, Eof among them, and takes those before it.
use Rattle.std.specs.Prelude.{ℕ, Bool, false, cond, not, ◌&&◌, ◌||◌, List, [], ◌∷◌, Some, None, Ok, Option, ◌==◌}
use Rattle.std.specs.Option.{option_map}
use Rattle.parts.specs.declared.MethodFacts.{MethodFacts}
use Rattle.parts.specs.declared.Part.{Part}
use Rattle.parts.specs.declared.Part.TheVariants.{Block, Decorator, Expression, IndexRest, TypeAnnotation}
use Rattle.parts.specs.declared.ReturnType.{ReturnType}
use Rattle.parts.specs.declared.Span.{Span}
use Rattle.reader.specs.Answers.{Answers}
use Rattle.reader.specs.Tokens.{ahead, head}
use Rattle.token.specs.Kinds.{among, is_identifier_name, k_at, k_colon, k_comma, k_eof, k_langle, k_lbrack, k_lcurly, k_lparen, k_rangle, k_rcurly, k_semicolon}
use Rattle.token.specs.Spans.{span_of}
use Rattle.token.specs.declared.Token.{Token}
use Rattle.brackets.specs.Depth.{closes, deeper, inside, up_to}
use Rattle.brackets.specs.Parameters.{parameters_in}
use Rattle.brackets.specs.Readings.{Reading, and_then, from_to, give, name, one, optional, refuse, spanned, taking, token}
use Rattle.brackets.specs.declared.parameters.Item.{Item}
use Rattle.brackets.specs.declared.parameters.ParameterList.{ParameterList}

-- `@` and a name
abbrev pub decorator_of : Reading Span
decorator_of = and_then (token k_at) (λ sign. and_then name (λ word. give (from_to sign word)))

-- `:` and a name
abbrev pub type_of : Reading ReturnType
type_of = and_then (token k_colon) (λ colon. and_then name (λ word. give (record { annotation = from_to colon word; type_span = span_of word })))

-- the part of which the span alone is told
abbrev pub annotation_of : Reading Span
annotation_of = and_then type_of (λ type. give type.annotation)

-- a bracket of kind k to its matching closer
abbrev pub group_of : ℕ → Reading Span
group_of k = and_then (token k) (λ opener. and_then (taking inside) (λ _. and_then (one closes) (λ closer. give (from_to opener closer))))

abbrev pub block_of : Reading Span
block_of = group_of k_lcurly

-- whether an expression ends before a token of kind k at depth d: at Eof, and outside its own brackets at `;`, `,` or a
-- closer
abbrev pub ends_expression : ℕ → ℕ → Bool
ends_expression d k = k == k_eof || (d == 0 && (among k (k_semicolon ∷ k_comma ∷ []) || closes k))

-- after its first token there also at a line break
abbrev pub ends_later : ℕ → Token → Bool
ends_later d t = ends_expression d t.kind.code || (d == 0 && t.line_break)

-- the tokens of an expression after the first
abbrev pub goes_on : Token → List Token → List Token
goes_on t ts = up_to ends_later (deeper 0 t.kind.code) ts

-- a first token, and those that go on with it
abbrev pub expression_told : Reading (Span → Span)
expression_told = and_then (one (λ k. not (ends_expression 0 k))) (λ t. and_then (taking (goes_on t)) (λ _. give (λ span. span)))

abbrev pub expression_of : Reading Span
expression_of = spanned expression_told

-- whether a semicolon can be inserted before a token
abbrev pub inserts_before : Token → Bool
inserts_before t = among t.kind.code (k_rcurly ∷ k_eof ∷ []) || t.line_break

-- a semicolon: one that is there is taken, and one that can be inserted takes nothing
abbrev pub semicolon_of : Reading (Unit {0})
semicolon_of ts = cond ((head ts).kind.code == k_semicolon) (record { result = Ok tt; count = 1 }) (cond (inserts_before (head ts)) (give tt ts) (refuse ts))

-- `<`, a name and `>`
abbrev pub type_parameters_of : Reading Span
type_parameters_of = and_then (token k_langle) (λ left. and_then name (λ _. and_then (token k_rangle) (λ right. give (from_to left right))))

-- `(` to its matching closer
abbrev pub parameter_list_of : Reading ParameterList
parameter_list_of =
    and_then (token k_lparen) (λ opener.
    and_then (taking inside) (λ between.
    and_then (one closes) (λ closer.
    give (record { span = from_to opener closer; parameters = parameters_in between }))))

-- a body, of which the start is told, or a semicolon in its place
abbrev pub body_of : Reading (Option ℕ)
body_of ts = cond ((head ts).kind.code == k_lcurly) (and_then block_of (λ block. give (Some block.start)) ts) (and_then semicolon_of (λ _. give None) ts)

-- whether a fact holds of an item, if there is one
abbrev pub holds_of : (Item → Bool) → Option Item → Bool
holds_of fact None = false
holds_of fact (Some item) = fact item

abbrev pub method_facts : Option Span → ParameterList → Option ReturnType → Option ℕ → Span → MethodFacts
method_facts generics list type body span =
    record {
      span = span;
      type_parameters = generics;
      parameters = list.span;
      count = list.parameters.count;
      first_item = option_map (λ item. item.span) list.parameters.first_item;
      first_optional = holds_of (λ item. item.optional) list.parameters.first_item;
      first_initializer = holds_of (λ item. item.initializer) list.parameters.first_item;
      rest = list.parameters.rest;
      this_param = list.parameters.this_param;
      return_type = type;
      body_start = body;
    }

-- type parameters if there is `<`, a parameter list, a type if there is `:`, and a body or a semicolon
abbrev pub method_told : Reading (Span → MethodFacts)
method_told =
    and_then (optional k_langle type_parameters_of) (λ generics.
    and_then parameter_list_of (λ list.
    and_then (optional k_colon type_of) (λ type.
    and_then body_of (λ body.
    give (method_facts generics list type body)))))

abbrev pub method_of : Reading MethodFacts
method_of = spanned method_told

-- `[` to its closer, a type and a semicolon
abbrev pub index_told : Reading (Span → Span)
index_told = and_then (group_of k_lbrack) (λ _. and_then type_of (λ _. and_then semicolon_of (λ _. give (λ span. span))))

abbrev pub index_of : Reading Span
index_of = spanned index_told

-- an index signature starts at `[`, a name and `:`
abbrev pub starts_index : List Token → Bool
starts_index ts = (head ts).kind.code == k_lbrack && is_identifier_name (head (ahead 1 ts)).kind.code && (head (ahead 2 ts)).kind.code == k_colon

abbrev pub part_of : Part → Reading Span
part_of Decorator = decorator_of
part_of Expression = expression_of
part_of TypeAnnotation = annotation_of
part_of Block = block_of
part_of IndexRest = index_of

abbrev pub bracket_answers : Answers
bracket_answers = record { part = λ p c ts. part_of p ts; method = λ c ts. method_of ts; index = λ c ts. starts_index ts }
