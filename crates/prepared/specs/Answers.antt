-- What records answer at a token t with n tokens from it to Eof (Eof not counted): the first record of the part that
-- stands there, if it keeps the rules, and else a refusal at the token. Neither the context nor the spans are looked at.
use Rattle.std.specs.Prelude.{ℕ, ◌-◌, Bool, true, cond, not, ◌&&◌, ◌||◌, List, length, is_some, is_ok, Some, None, Ok, Err, Option, Result, ◌==◌, nat_le, nat_lt}
use Rattle.parts.specs.declared.MethodFacts.{MethodFacts}
use Rattle.parts.specs.declared.Part.{Part}
use Rattle.parts.specs.declared.Part.TheVariants.{IndexRest}
use Rattle.parts.specs.declared.Span.{Span}
use Rattle.reader.specs.Answers.{Answer, Answers}
use Rattle.reader.specs.Tokens.{head}
use Rattle.token.specs.Spans.{span_of}
use Rattle.token.specs.declared.Token.{Token}
use Rattle.prepared.specs.Records.{first_at}
use Rattle.prepared.specs.declared.records.Asked.TheVariants as asked
use Rattle.prepared.specs.declared.records.PartRecord.{PartRecord}
use Rattle.prepared.specs.declared.records.Told.{Told}
use Rattle.prepared.specs.declared.records.Told.TheVariants.{Plain, Method}

-- a refusal at the token, which takes nothing
abbrev pub refused_at : {F : Type 0} → Token → Answer F
refused_at t = record { result = Err (span_of t); count = 0 }

-- it takes no more tokens than there are, and facts take one at least
abbrev pub keeps_rules : Bool → ℕ → ℕ → Bool
keeps_rules facts count n = nat_le count n && (not facts || nat_lt 0 count)

-- a count of 1 without a rest has a first item
abbrev pub is_itemed : MethodFacts → Bool
is_itemed m = not (m.count == 1) || is_some m.rest || is_some m.first_item

-- facts that are so; a refusal has none
abbrev pub are_itemed : Result MethodFacts Span → Bool
are_itemed (Ok m) = is_itemed m
are_itemed (Err s) = true

-- what a record says, if it keeps the rules, and else a refusal
abbrev pub judged : {F : Type 0} → Bool → Result F Span → ℕ → Token → Answer F
judged keeps r count t = cond keeps (record { result = r; count = count }) (refused_at t)

-- what is told of a plain part, with its count of tokens
abbrev pub plain_told : Told → ℕ → Token → ℕ → Answer Span
plain_told (Plain p r) count t n = judged (keeps_rules (is_ok r) count n) r count t
plain_told (Method r) count t n = refused_at t

-- and of a method's rest
abbrev pub method_told : Told → ℕ → Token → ℕ → Answer MethodFacts
method_told (Plain p r) count t n = refused_at t
method_told (Method r) count t n = judged (keeps_rules (is_ok r) count n && are_itemed r) r count t

-- what the first record answers, if there is one
abbrev pub plain_answer : Option PartRecord → Token → ℕ → Answer Span
plain_answer None t n = refused_at t
plain_answer (Some r) t n = plain_told r.told r.count t n

abbrev pub method_answer : Option PartRecord → Token → ℕ → Answer MethodFacts
method_answer None t n = refused_at t
method_answer (Some r) t n = method_told r.told r.count t n

-- the first record of a part, and of a method's rest
abbrev pub part_in : List PartRecord → Part → Token → ℕ → Answer Span
part_in rs p t n = plain_answer (first_at (asked.Plain p) t.start rs) t n

abbrev pub method_in : List PartRecord → Token → ℕ → Answer MethodFacts
method_in rs t n = method_answer (first_at asked.Method t.start rs) t n

-- some record of an index rest, whether it keeps the rules or not
abbrev pub index_in : List PartRecord → Token → Bool
index_in rs t = is_some (first_at (asked.Plain IndexRest) t.start rs)

-- at the current token, in every context
abbrev pub prepared_answers : List PartRecord → Answers
prepared_answers rs =
    record {
      part = λ p c ts. part_in rs p (head ts) (length ts - 1);
      method = λ c ts. method_in rs (head ts) (length ts - 1);
      index = λ c ts. index_in rs (head ts);
    }
