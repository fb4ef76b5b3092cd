use Rattle.std.proofs.Common.{◌≡◌, true, List, drop, sym, subst}
use Rattle.reader.proofs.Closing.{next_sound}
use Rattle.reader.specs.Sound.{sound}
use Rattle.reader.specs.Tokens.{closed}
use Rattle.token.specs.declared.Token.{Token}
use Rattle.table.proofs.table.methods.TableTokenReader.advance.Goals as goal

pub returns-then-ne-clause-sound : goal.returns-then-ne-clause-sound
returns-then-ne-clause-sound c = λ h. subst (λ (l : List Token). sound l ≡ true) (sym c.step_from-self.ensures) (next_sound (closed (drop c.args.self.now.at c.args.self.now.tokens.now)) h)
