use Rattle.std.proofs.Common.{rules}
use Rattle.list.proofs.Noting.{noted_then}
use Rattle.class.specs.Methods.{method_reports}
use Rattle.class.proofs.judging.note_method.Goals as goal

pub returns : goal.returns
unfolding method_reports
returns c = search (rules, noted_then)
