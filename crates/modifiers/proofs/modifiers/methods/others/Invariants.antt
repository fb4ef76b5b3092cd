use Rattle.std.proofs.Common.{◌≡◌, ◌≤◌, length, take, filter}
use Rattle.modifiers.specs.Entries.{differs}
use Rattle.modifiers.proofs.modifiers.methods.others.Given as goal

abbrev pub invariant-loop-x : goal.invariant-loop-x
invariant-loop-x l =
    (length l.order ≡ 15) × (l.count ≤ l.x-index) × (take l.count l.order ≡ filter (differs l.n) (take l.x-index l.x-items))
