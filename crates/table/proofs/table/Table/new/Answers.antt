use Rattle.std.proofs.Common.{◌≡◌, true, List, sym, subst, arith, rules}
use Rattle.std.proofs.lemmas.Bool.Decides.{nat_tests}
use Rattle.reader.specs.Sound.{sound}
use Rattle.refusal.specs.Questions.{first_no, number_of}
use Rattle.token.specs.declared.Token.{Token}
use Rattle.table.specs.Tables.{table_questions}
use Rattle.table.proofs.Walking.{meaning_sound, opened_tokens}
use Rattle.table.proofs.table.Table.new.Goals as goal

pub returns : goal.returns
returns c =
    let ts = c.args.tokens.now in
    let n : number_of c.err-refused.result ≡ first_no (table_questions ts) = search rules in
    let e = opened_tokens ts c.err-refused.result c.if-is_some.at n (grind (arith, nat_tests)) in
    record {
      refused = n;
      tokens = e;
      last = search rules;
      sound = subst (λ (l : List Token). sound l ≡ true) (sym e) (meaning_sound ts);
    }
