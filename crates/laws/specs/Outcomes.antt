-- What a call tells, in the words of the calls: each case by its numbers and values.
use Rattle.std.specs.Prelude.{ℕ, Some, None, Ok, Err, Option, Result}
use Rattle.refusal.specs.Numbers.{refusal_number}
use Rattle.refusal.specs.declared.Refusal.{Refusal}
use Rattle.session.specs.Worlds.{Answer, carried, fault, kept_says, member, no_more, refused, standing_says, stands}
use Rattle.laws.specs.declared.outcome.Outcome.{Outcome}
use Rattle.laws.specs.declared.outcome.Outcome.TheVariants.{Done, Read, Stands}

abbrev pub Told : Type 0
Told = Result Outcome Refusal

abbrev pub said_by : Told → Answer
said_by (Ok Done) = carried
said_by (Ok (Read x)) = kept_says x
said_by (Ok (Stands s)) = standing_says s
said_by (Err r) = refused (refusal_number r)

-- the number of a refusal, if it is one
abbrev pub refused_in : Answer → Option ℕ
refused_in (refused n) = Some n
refused_in carried = None
refused_in member = None
refused_in no_more = None
refused_in (fault n) = None
refused_in (stands z m k x f) = None
