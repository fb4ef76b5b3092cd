use Rattle.std.proofs.Common.{rules}
use Rattle.list.proofs.Noting.{noted_then}
use Rattle.class.specs.Properties.{accessor_name_reports}
use Rattle.class.proofs.properties.note_accessor_name.Goals as goal

pub returns : goal.returns
unfolding accessor_name_reports
returns c = search (rules, noted_then)
