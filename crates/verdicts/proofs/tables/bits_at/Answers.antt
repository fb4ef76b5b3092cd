use Rattle.std.proofs.Common.{arith}
use Rattle.std.proofs.lemmas.List.FromFn.{get_or-map-range_with_len}
use Rattle.verdicts.specs.Verdicts.{forbidden_before, kind_at, packed}
use Rattle.verdicts.proofs.tables.bits_at.Goals as goal

-- The table is the list of the packed rows, which the checker computes and compares.
pub returns : goal.returns
returns c =
    let n = c.args.later in
    get_or-map-range_with_len (λ k. packed (forbidden_before (kind_at k))) 0 15 n n 0 c.requires (omega arith)
