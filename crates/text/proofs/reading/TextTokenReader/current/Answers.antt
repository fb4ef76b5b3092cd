use Rattle.text.proofs.Lexing.{held_head, held_ended}
use Rattle.text.proofs.reading.TextTokenReader.current.Goals as goal

pub returns : goal.returns
returns c =
    record {
      value = held_head c.args.self.now.current c.args.self.now.source.bytes.now;
      ends = held_ended c.args.self.now.current c.args.self.now.source.bytes.now;
    }
