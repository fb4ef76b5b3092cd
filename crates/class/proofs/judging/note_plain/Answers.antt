use Rattle.std.proofs.Common.{rules}
use Rattle.list.proofs.Noting.{noted_then}
use Rattle.class.specs.Methods.{plain_reports}
use Rattle.class.proofs.judging.note_plain.Goals as goal

pub returns : goal.returns
unfolding plain_reports
returns c = search (rules, noted_then)
