use Rattle.std.proofs.Common.{◌≡◌, ◌<◌, length, take, refl, add-one, arith, length-take, take-suc-set, rules}
use Rattle.std.proofs.lemmas.Bool.Decides.{nat_tests}
use Rattle.records.specs.Decorators.{spans_of}
use Rattle.records.proofs.decorators.Decorators.push.Goals as goal

pub returns-then-next-lt-MOST : goal.returns-then-next-lt-MOST
unfolding spans_of
returns-then-next-lt-MOST c =
    let d = c.args.self.now in
    let lt : d.count < length d.spans = omega arith in
    let n : length (take d.count d.spans) ≡ d.count = simp length-take (omega arith) in
    record {
      answer = rw n (grind (arith, nat_tests));
      pushed = λ _. rw add-one (take-suc-set d.spans d.count c.args.span lt);
      full = search rules;
    }

pub returns-else-next-lt-MOST : goal.returns-else-next-lt-MOST
unfolding spans_of
returns-else-next-lt-MOST c =
    let d = c.args.self.now in
    let n : length (take d.count d.spans) ≡ d.count = simp length-take (omega arith) in
    record { answer = rw n (grind (arith, nat_tests)); pushed = search rules; full = λ _. refl }
