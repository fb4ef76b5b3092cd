use Rattle.std.proofs.Common.{length, drop, ap, arith}
use Rattle.reader.proofs.Closing.{closed_ended}
use Rattle.table.specs.Means.{table_tokens}
use Rattle.prepared.proofs.Counting.{next_counts}
use Rattle.prepared.proofs.prepared.methods.PreparedTokenReader.advance.Goals as goal

pub invariant_of-self : goal.invariant_of-self
invariant_of-self c =
    let s = c.args.self.now in
    let e = next_counts (table_tokens s.reader) s.left (closed_ended (drop s.reader.at s.reader.tokens.now)) s.counted in
    record { counted = omega (arith, ap length c.advance.ensures.tokens) }
