-- Whatever the records are, the answers are lawful.
use Rattle.std.proofs.Common.{◌≡◌, ℕ, ◌-◌, ◌<◌, Bool, true, false, ◌&&◌, List, [], ◌∷◌, length, is_ok, Some, None, Ok, Err, Option, Result, refl, arith}
use Rattle.std.proofs.lemmas.Bool.Decides.{nat_tests}
use Rattle.parts.specs.declared.MethodFacts.{MethodFacts}
use Rattle.parts.specs.declared.Span.{Span}
use Rattle.reader.specs.Tokens.{ended, head}
use Rattle.script.specs.Lawful.{Itemed, Lawful, Takes}
use Rattle.token.specs.declared.Token.{Token}
use Rattle.prepared.specs.Answers.{are_itemed, is_itemed, judged, keeps_rules, method_answer, method_told, plain_answer, plain_told, prepared_answers, refused_at}
use Rattle.prepared.specs.Records.{first_at}
use Rattle.prepared.specs.declared.records.Asked.TheVariants as asked
use Rattle.prepared.specs.declared.records.PartRecord.{PartRecord}
use Rattle.prepared.specs.declared.records.Told.{Told}
use Rattle.prepared.specs.declared.records.Told.TheVariants.{Plain, Method}

ended_some : (ts : List Token) → ended ts ≡ true → 0 < length ts
ended_some [] h = grind arith
ended_some (t ∷ ts) h = omega arith

-- what each piece takes of a list that is not empty
module _ (ts : List Token) (some-token : 0 < length ts) (t : Token) where
  refused_takes : {F : Type 0} → Takes {F = F} (refused_at t) ts
  refused_takes = record { within = some-token; some = λ e. grind arith }

  judged_takes : {F : Type 0} (b : Bool) (r : Result F Span) (count : ℕ) → (b ≡ true → keeps_rules (is_ok r) count (length ts - 1) ≡ true) → Takes (judged b r count t) ts
  judged_takes false r count k = refused_takes
  judged_takes true r count k = let e = k refl in record { within = grind (arith, nat_tests); some = λ o. grind (arith, nat_tests) }

  plain_takes : (o : Told) (count : ℕ) → Takes (plain_told o count t (length ts - 1)) ts
  plain_takes (Plain p r) count = judged_takes (keeps_rules (is_ok r) count (length ts - 1)) r count (λ e. e)
  plain_takes (Method r) count = refused_takes

  method_takes : (o : Told) (count : ℕ) → Takes (method_told o count t (length ts - 1)) ts
  method_takes (Plain p r) count = refused_takes
  method_takes (Method r) count = judged_takes (keeps_rules (is_ok r) count (length ts - 1) && are_itemed r) r count (λ e. grind (arith, nat_tests))

  part_answered : (o : Option PartRecord) → Takes (plain_answer o t (length ts - 1)) ts
  part_answered None = refused_takes
  part_answered (Some r) = plain_takes r.told r.count

  method_answered : (o : Option PartRecord) → Takes (method_answer o t (length ts - 1)) ts
  method_answered None = refused_takes
  method_answered (Some r) = method_takes r.told r.count

itemed : (m : MethodFacts) → is_itemed m ≡ true → Itemed m
itemed m h = λ e f. grind (arith, nat_tests)

-- facts that are answered have their first item
judged_itemed : (k : Bool) (r : Result MethodFacts Span) (count : ℕ) (t : Token) (m : MethodFacts) → (judged (k && are_itemed r) r count t).result ≡ Ok m → Itemed m
judged_itemed false r count t m h = grind arith
judged_itemed true (Err s) count t m h = grind arith
judged_itemed true (Ok f) count t m h = by (is_itemed f) refl h
  where
    by : (b : Bool) → is_itemed f ≡ b → (judged b (Ok f) count t).result ≡ Ok m → Itemed m
    by true e q = let s : f ≡ m = cc in itemed m (rw s at e)
    by false e q = grind arith

told_itemed : (o : Told) (count : ℕ) (t : Token) (n : ℕ) (m : MethodFacts) → (method_told o count t n).result ≡ Ok m → Itemed m
told_itemed (Plain p r) count t n m h = grind arith
told_itemed (Method r) count t n m h = judged_itemed (keeps_rules (is_ok r) count n) r count t m h

answer_itemed : (o : Option PartRecord) (t : Token) (n : ℕ) (m : MethodFacts) → (method_answer o t n).result ≡ Ok m → Itemed m
answer_itemed None t n m h = grind arith
answer_itemed (Some r) t n m h = told_itemed r.told r.count t n m h

pub prepared_lawful : (rs : List PartRecord) → Lawful (prepared_answers rs)
prepared_lawful rs =
    record {
      parts = λ p c ts h. part_answered ts (ended_some ts h) (head ts) (first_at (asked.Plain p) (head ts).start rs);
      methods = λ c ts h. method_answered ts (ended_some ts h) (head ts) (first_at asked.Method (head ts).start rs);
      items = λ c ts m h. answer_itemed (first_at asked.Method (head ts).start rs) (head ts) (length ts - 1) m h;
    }
