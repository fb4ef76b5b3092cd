use Rattle.std.proofs.Common.{sym, arith}
use Rattle.modifiers.specs.Lists.{entries}
use Rattle.modifiers.proofs.Held.{length_listed}
use Rattle.modifiers.proofs.modifiers.Modifiers.len.Goals as goal

pub returns : goal.returns
unfolding entries
returns c =
    let m = c.args.self in
    sym (length_listed m.starts m.order m.len (omega arith))
