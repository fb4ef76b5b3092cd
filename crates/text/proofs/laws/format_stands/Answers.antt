use Rattle.std.proofs.Common.{refl}
use Rattle.text.proofs.Lexing.{cut_law, end_law, size_law}
use Rattle.text.proofs.laws.format_stands.Goals as goal

pub returns : goal.returns
returns c = record { value = refl; cut = cut_law; end = end_law; size = size_law }
