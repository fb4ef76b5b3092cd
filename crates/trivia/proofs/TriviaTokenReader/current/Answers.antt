use Rattle.std.proofs.Common.{false}
use Rattle.reader.proofs.Closing.{closed_ended}
use Rattle.trivia.specs.Kept.{held_before, without_skips}
use Rattle.trivia.proofs.TriviaTokenReader.current.Goals as goal

pub returns-clause-ends : goal.returns-clause-ends
returns-clause-ends g c =
    closed_ended (held_before c.args.self.now.held (without_skips false (g.R.TokenReader.tokens c.args.self.now.below)))
