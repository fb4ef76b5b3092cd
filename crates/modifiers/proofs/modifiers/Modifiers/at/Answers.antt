use Rattle.std.proofs.Common.{take, Some, sym, ap, ◌∙◌, arith}
use Rattle.std.proofs.lemmas.Option.{slice_get_past}
use Rattle.modifiers.specs.Entries.{listed}
use Rattle.modifiers.specs.Lists.{entries}
use Rattle.modifiers.proofs.Held.{known_at, length_listed, nth_listed}
use Rattle.modifiers.proofs.modifiers.Modifiers.at.Goals as goal

pub entry-requires : goal.entry-requires
entry-requires c =
    let m = c.args.self in
    known_at m.order m.len c.args.i (omega arith) (omega arith) m.known

pub returns-then-i-self : goal.returns-then-i-self
unfolding entries
returns-then-i-self c =
    let m = c.args.self in
    ap Some c.entry.ensures ∙ sym (nth_listed m.starts m.order m.len c.args.i (omega arith) (omega arith))

pub returns-else-i-self : goal.returns-else-i-self
unfolding entries
returns-else-i-self c =
    let m = c.args.self in
    let size = length_listed m.starts m.order m.len (omega arith) in
    sym (slice_get_past (listed m.starts (take m.len m.order)) c.args.i (omega arith))
