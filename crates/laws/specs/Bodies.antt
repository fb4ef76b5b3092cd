-- A body read whole.
use Rattle.std.specs.Prelude.{◌≡◌, ℕ, List, [], ◌∷◌, Some, None, Option}
use Rattle.std.specs.Option.{option_or}
use Rattle.laws.specs.Chains.{Happened, Ran}
use Rattle.laws.specs.Outcomes.{refused_in, said_by}
use Rattle.session.specs.Worlds.{Answer, World, carried, fault, member, no_more, refused, stands}
use Rattle.session.specs.declared.state.Call.{Call}
use Rattle.session.specs.declared.state.Call.TheVariants.{Close, Member, Open, Standing}

-- after a brace was taken, by the call that took it
abbrev pub after_brace : Call → Option Call
after_brace Open = Some Member
after_brace Member = None
after_brace Close = None
after_brace Standing = None

-- the call that the gate makes after one, by what that told: members after the opening brace, while one is read, and the
-- closing brace after the last; none after a refusal, a fault or the closing brace
abbrev pub following : Call → Answer → Option Call
following c carried = after_brace c
following c member = Some Member
following c no_more = Some Close
following c (refused n) = None
following c (fault n) = None
following c (stands z m k x f) = None

-- calls in the gate's order, from the one that was due to the one that is due afterwards
abbrev pub InOrder : Option Call → List Happened → Option Call → Type 0
InOrder d [] e = d ≡ e
InOrder None (x ∷ xs) e = ⊥
InOrder (Some c) (x ∷ xs) e = (x.call ≡ c) × InOrder (following c (said_by x.told)) xs e

-- the number of the refusal among them, if one was refused (it is the last then: none is due after it)
abbrev pub refusal_among : List Happened → Option ℕ
refusal_among [] = None
refusal_among (x ∷ xs) = option_or (refused_in (said_by x.told)) (refusal_among xs)

-- from a call on, the gate's calls were made until none was due; the answer is the refusal among them
pub record ReadFrom (c : Call) (refused : Option ℕ) (w w' : World) : Type 0 where
  pub chain : List Happened
  pub ran : Ran w chain w'
  pub order : InOrder (Some c) chain None
  pub told : refused ≡ refusal_among chain
