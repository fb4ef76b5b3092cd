use Rattle.std.proofs.Common.{◌≡◌, ◌<◌, true, ltb, length, take, ap, add-one, arith, length-take, take-suc-set, rules}
use Rattle.std.proofs.lemmas.Bool.Decides.{nat_tests}
use Rattle.list.proofs.Noting.{of}
use Rattle.list.proofs.list.List.push.Goals as goal

pub returns-then-self : goal.returns-then-self
returns-then-self g c =
    let s = c.args.self.now in
    let lt : s.len < length s.items.now = omega arith in
    let n : length (take s.len s.items.now) ≡ s.len = simp length-take (omega arith) in
    let p : ltb (length (take s.len s.items.now)) (length s.items.now) ≡ true = rw n (grind (arith, nat_tests)) in
    record {
      answer = search rules;
      noted = record { after = rw p (ap (λ h. of h s.missed) (rw add-one (take-suc-set s.items.now s.len c.args.x lt))); places = search rules; lent = search rules };
      memory = search rules;
    }
