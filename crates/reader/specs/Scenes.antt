-- What a reader means, as one value.
use Rattle.std.specs.Prelude.{ℕ, List}
use Rattle.token.specs.declared.Token.{Token}
use Rattle.reader.specs.Answers.{Answers}
use Rattle.reader.specs.Tokens.{ahead, last_after, last_end, next}
use Rattle.reader.specs.declared.TokenReader.{Ghosts}

-- the tokens from the current one to Eof, the end of the last one taken, and what each part answers
pub record Scene : Type 0 where
  pub tokens : List Token
  pub last : ℕ
  pub answers : Answers

-- what a reader of any type means
abbrev pub scene : {X : Type 0} → Ghosts X → X → Scene
scene g x = record { tokens = g.tokens x; last = g.last x; answers = g.answers x }

-- with one token taken
abbrev pub past_one : Scene → Scene
past_one s = record { tokens = next s.tokens; last = last_end s.tokens s.last; answers = s.answers }

-- with k tokens taken
abbrev pub past : ℕ → Scene → Scene
past k s = record { tokens = ahead k s.tokens; last = last_after k s.tokens s.last; answers = s.answers }
