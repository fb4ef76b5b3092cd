use Rattle.std.proofs.Common.{◌≡◌, ◌+◌, ◌∷◌, length, add-one, ap, arith, rules}
use Rattle.modifiers.specs.Lists.{entries}
use Rattle.modifiers.specs.Walks.{left}
use Rattle.modifiers.proofs.Laws.{entries_few}
use Rattle.modifiers.proofs.Walks.{walk_on, walk_over}
use Rattle.modifiers.proofs.iter.IterIterator.next.Goals as goal

pub returns-in_err-word-clause-steps : goal.returns-in_err-word-clause-steps
returns-in_err-word-clause-steps c =
    let s = c.args.self.now in
    let over = walk_over (entries s.modifiers) s.next c.in_err-word.ensures in
    search rules

pub overflow_add-self : goal.overflow_add-self
overflow_add-self c =
    let s = c.args.self.now in
    let on = walk_on (entries s.modifiers) s.next c.in_ok-word.word c.in_ok-word.ensures in
    let few = entries_few s.modifiers in
    record { fits = omega (arith, on.0) }

pub returns-clause-steps : goal.returns-clause-steps
returns-clause-steps c =
    let s = c.args.self.now in
    rw add-one (walk_on (entries s.modifiers) s.next c.in_ok-word.word c.in_ok-word.ensures).1

pub returns-clause-goes : goal.returns-clause-goes
returns-clause-goes c =
    let s = c.args.self.now in
    let steps : left s ≡ c.in_ok-word.word ∷ left (record { modifiers = s.modifiers; next = s.next + 1 }) =
    rw add-one (walk_on (entries s.modifiers) s.next c.in_ok-word.word c.in_ok-word.ensures).1 in
    let shorter = ap length steps in
    search rules
