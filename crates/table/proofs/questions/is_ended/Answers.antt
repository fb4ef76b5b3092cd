use Rattle.std.proofs.Common.{◌≡◌, ◌∙◌, ◌+◌, ℕ, Bool, false, eqb, length, Option, None, Some, MatchOption, cond, ltb, position, rules, tests, arith}
use Rattle.std.specs.List.{position_or_len}
use Rattle.std.proofs.lemmas.Bool.Decides.{nat_tests}
use Rattle.std.proofs.lemmas.Iterator.{YieldsList-from_slice}
use Rattle.std.proofs.lemmas.Iterator.Search.{position_from_yields_List}
use Rattle.reader.specs.Tokens.{is_eof}
use Rattle.table.proofs.Walking.{ended-by}
use Rattle.table.proofs.questions.is_ended.Goals as goal

-- that the place found is the last
last : (p n : ℕ) (o : Option ℕ) (r : Bool) → o ≡ cond (ltb p n) (Some p) None → MatchOption o (r ≡ false) (λ i. r ≡ eqb (i + 1) n) → r ≡ eqb (p + 1) n
last p n None r e h = grind (arith, nat_tests)
last p n (Some i) r e h = grind (arith, nat_tests)

pub returns : goal.returns
returns c =
    let ts = c.args.ts.now in
    let e : c.position.result ≡ position is_eof ts = position_from_yields_List is_eof _ _ _ c.position.ensures.ran (YieldsList-from_slice ts (cc)) (λ x b q k. search (rules, tests)) in
    last (position_or_len is_eof ts) (length ts) c.position.result c.is_some_and.result e (search rules) ∙ ended-by ts
