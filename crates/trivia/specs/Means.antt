-- What the layer means: the four tokens held back and those below without Skip, up to Eof. So what is held is tied to the
-- reader below by the meaning, from call to call.
use Rattle.std.specs.Prelude.{false, List}
use Rattle.reader.specs.Tokens.{closed}
use Rattle.token.specs.declared.Token.{Token}
use Rattle.trivia.specs.Kept.{held_before, without_skips}
use Rattle.trivia.specs.declared.Trivia.{Trivia}

abbrev pub trivia_tokens : {R : Type 0} → (R → List Token) → Trivia R → List Token
trivia_tokens tokens s = closed (held_before s.held (without_skips false (tokens s.below)))
