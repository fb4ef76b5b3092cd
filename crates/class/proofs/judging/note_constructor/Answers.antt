use Rattle.std.proofs.Common.{rules}
use Rattle.list.proofs.Noting.{noted_then}
use Rattle.class.specs.Methods.{constructor_reports}
use Rattle.class.proofs.judging.note_constructor.Goals as goal

pub returns : goal.returns
unfolding constructor_reports
returns c = search (rules, noted_then)
