use Rattle.std.proofs.Common.{refl}
use Rattle.checks.proofs.Named.{no_filler, sets_stand}
use Rattle.checks.proofs.Once.{checks_stand_lem}
use Rattle.checks.proofs.stands.checks_stand.Goals as goal

pub returns : goal.returns
returns c = record { stands = refl; once = checks_stand_lem; named = no_filler; sets = sets_stand }
