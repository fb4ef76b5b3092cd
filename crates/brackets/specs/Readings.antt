-- How a format is put together: a reading has an answer for every list of tokens.
use Rattle.std.specs.Prelude.{◌≡◌, ℕ, ◌+◌, Bool, cond, List, length, Some, None, Ok, Err, Option, Result, ◌==◌, nat_eq}
use Rattle.parts.specs.declared.Span.{Span}
use Rattle.reader.specs.Answers.{Answer}
use Rattle.reader.specs.Scenes.{Scene, past, scene}
use Rattle.reader.specs.Tokens.{ahead, head, last_after}
use Rattle.reader.specs.declared.TokenReader.{Ghosts}
use Rattle.token.specs.Kinds.{is_identifier_name}
use Rattle.token.specs.Spans.{span_of}
use Rattle.token.specs.declared.Token.{Token}

abbrev pub Reading : Type 0 → Type 0
Reading F = List Token → Answer F

-- from the start of one token to the end of another
abbrev pub from_to : Token → Token → Span
from_to a b = record { start = a.start; end = b.end }

-- facts that take no token
abbrev pub give : {F : Type 0} → F → Reading F
give x ts = record { result = Ok x; count = 0 }

-- a refusal at the current token
abbrev pub refuse : {F : Type 0} → Reading F
refuse ts = record { result = Err (span_of (head ts)); count = 0 }

-- one token, of a kind that fits
abbrev pub one : (ℕ → Bool) → Reading Token
one fits ts = cond (fits (head ts).kind.code) (record { result = Ok (head ts); count = 1 }) (refuse ts)

abbrev pub token : ℕ → Reading Token
token k = one (λ x. nat_eq x k)

-- a plain name or a keyword
abbrev pub name : Reading Token
name = one is_identifier_name

-- tokens at the front, which `front` picks
abbrev pub taking : (List Token → List Token) → Reading (List Token)
taking front ts = record { result = Ok (front ts); count = length (front ts) }

abbrev pub proceed : {F G : Type 0} → Result F Span → ℕ → (F → Answer G) → Answer G
proceed (Ok x) n g = record { result = (g x).result; count = n + (g x).count }
proceed (Err e) n g = record { result = Err e; count = n }

-- one reading, and then the one that its facts choose, where it left off; a refusal is the last word
unfoldable pub and_then : {F G : Type 0} → Reading F → (F → Reading G) → Reading G
and_then f g ts = proceed (f ts).result (f ts).count (λ x. g x (ahead (f ts).count ts))

-- a reading that is made only at a token of kind k
abbrev pub optional : {F : Type 0} → ℕ → Reading F → Reading (Option F)
optional k f ts = cond ((head ts).kind.code == k) (and_then f (λ x. give (Some x)) ts) (give None ts)

-- the span of the first n tokens
abbrev pub span_over : ℕ → List Token → Span
span_over n ts = record { start = (head ts).start; end = last_after n ts 0 }

-- a reading whose facts tell the span of all that it took
unfoldable pub spanned : {F : Type 0} → Reading (Span → F) → Reading F
spanned f ts = proceed (f ts).result (f ts).count (λ x. give (x (span_over (f ts).count ts)) ts)

-- r is what the answer says, and of a reader that meant s its tokens are taken
pub record Answered {F : Type 0} (a : Answer F) (s : Scene) (r : Result F Span) (s' : Scene) : Type 0 where
  pub value : r ≡ a.result
  pub after : s' ≡ past a.count s

-- a reader x took what the reading f takes, and told r
abbrev pub Reads : {X F : Type 0} → Ghosts X → Reading F → X → Result F Span → X → Type 0
Reads g f x r x' = Answered (f (g.tokens x)) (scene g x) r (scene g x')

-- and of a reader that tells nothing, the tokens at the front are taken, which `front` picks
abbrev pub Skips : {X : Type 0} → Ghosts X → (List Token → List Token) → X → X → Type 0
Skips g front x x' = scene g x' ≡ past (length (front (g.tokens x))) (scene g x)
