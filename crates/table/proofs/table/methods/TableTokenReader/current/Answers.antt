use Rattle.std.proofs.Common.{drop}
use Rattle.reader.proofs.Closing.{closed_ended}
use Rattle.table.proofs.table.methods.TableTokenReader.current.Goals as goal

pub returns-clause-ends : goal.returns-clause-ends
returns-clause-ends c = closed_ended (drop c.args.self.now.at c.args.self.now.tokens.now)
