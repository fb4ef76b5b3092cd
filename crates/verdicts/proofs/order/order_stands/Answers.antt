use Rattle.std.proofs.Common.{refl}
use Rattle.verdicts.proofs.Ordered.{order_stands_lem}
use Rattle.verdicts.proofs.order.order_stands.Goals as goal

pub returns : goal.returns
returns c = record { stands = refl; law = order_stands_lem }
