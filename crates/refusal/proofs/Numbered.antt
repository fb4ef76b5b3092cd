-- A refusal always has a number.
use Rattle.std.proofs.Common.{◌≡◌, is_some, Some, None, Option, refl}
use Rattle.refusal.specs.Questions.{number_of}
use Rattle.refusal.specs.declared.Refusal.{Refusal}

pub some_number : (r : Option Refusal) → is_some (number_of r) ≡ is_some r
some_number None = refl
some_number (Some r) = refl
