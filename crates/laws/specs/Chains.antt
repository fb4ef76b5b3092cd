-- Chains of calls: each goes on from where the one before, refused or not, stopped.
use Rattle.std.specs.Prelude.{◌≡◌, List, [], ◌∷◌, map}
use Rattle.laws.specs.Outcomes.{Told, said_by}
use Rattle.list.specs.Lists.{Noted}
use Rattle.list.specs.declared.list.List.{List as Held}
use Rattle.session.specs.Worlds.{Did, World}
use Rattle.session.specs.declared.state.Call.{Call}

-- a call that was made: the world before it, what it told, and the world after it
pub record Happened : Type 0 where
  pub before : World
  pub call : Call
  pub told : Told
  pub after : World

-- it did what such a call does
abbrev pub Step : Happened → Type 0
Step x = Did x.call (said_by x.told) x.before x.after

-- from one world to another
abbrev pub Ran : World → List Happened → World → Type 0
Ran w [] w' = w ≡ w'
Ran w (x ∷ xs) w' = (x.before ≡ w) × Step x × Ran x.after xs w'

abbrev pub calls_of : List Happened → List Call
calls_of xs = map (λ (x : Happened). x.call) xs

abbrev pub told_of : List Happened → List Told
told_of xs = map (λ (x : Happened). x.told) xs

-- that calls were made in order, and that what each told was noted
pub record Performed (calls : List Call) (w w' : World) (t t' : Held Told) : Type 0 where
  pub chain : List Happened
  pub ran : Ran w chain w'
  pub are : calls_of chain ≡ calls
  pub told : Noted t t' (told_of chain)
