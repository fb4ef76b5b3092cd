use Rattle.std.proofs.Common.{rules}
use Rattle.list.proofs.Noting.{noted_then}
use Rattle.class.specs.Properties.{property_reports}
use Rattle.class.proofs.properties.note_property.Goals as goal

pub returns : goal.returns
unfolding property_reports
returns c = search (rules, noted_then)
