use Rattle.lexeme.specs.Words.{word_kind}
use Rattle.lexeme.proofs.words.word_kind.Goals as goal

pub returns : goal.returns
unfolding word_kind
returns c = c.find.ensures
