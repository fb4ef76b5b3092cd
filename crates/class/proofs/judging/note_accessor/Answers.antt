use Rattle.std.proofs.Common.{rules}
use Rattle.list.proofs.Noting.{noted_then}
use Rattle.class.specs.Methods.{accessor_reports}
use Rattle.class.proofs.judging.note_accessor.Goals as goal

pub returns : goal.returns
unfolding accessor_reports
returns c = search (rules, noted_then)
