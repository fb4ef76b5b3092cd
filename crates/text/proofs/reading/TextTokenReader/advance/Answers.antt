use Rattle.std.proofs.Common.{◌≡◌, true, List, sym, subst}
use Rattle.reader.proofs.Closing.{next_sound}
use Rattle.reader.specs.Sound.{sound}
use Rattle.token.specs.declared.Token.{Token}
use Rattle.text.specs.Means.{text_tokens}
use Rattle.text.proofs.reading.TextTokenReader.advance.Goals as goal

pub returns-then-ne-clause-sound : goal.returns-then-ne-clause-sound
returns-then-ne-clause-sound c =
    let P : List Token → Type 0 = λ l. sound l ≡ true in
    λ h. subst P (sym c.after-self.ensures) (next_sound (text_tokens c.args.self.now) h)
