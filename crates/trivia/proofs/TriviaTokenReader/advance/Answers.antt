use Rattle.std.proofs.Common.{◌≡◌, true, false, List, ◌∷◌, get_or, sym, subst, rules}
use Rattle.reader.proofs.Closing.{next_sound}
use Rattle.reader.specs.Sound.{sound}
use Rattle.reader.specs.Tokens.{closed, eof0, next}
use Rattle.token.specs.declared.Token.{Token}
use Rattle.trivia.specs.Kept.{without_skips}
use Rattle.trivia.specs.Means.{trivia_tokens}
use Rattle.trivia.proofs.TriviaTokenReader.advance.Goals as goal

pub returns-then-ne-clause-sound : goal.returns-then-ne-clause-sound
returns-then-ne-clause-sound g c =
    let s = c.args.self.now in
    let ts : List Token = trivia_tokens g.R.TokenReader.tokens s in
    let rest = without_skips false (g.R.TokenReader.tokens c.next_kept-fourth.new.below) in
    let e : closed (get_or s.held 1 eof0 ∷ (get_or s.held 2 eof0 ∷ (get_or s.held 3 eof0 ∷ (c.next_kept-fourth.result ∷ rest)))) ≡ next ts = search rules in
    λ h. subst (λ (l : List Token). sound l ≡ true) (sym e) (next_sound ts h)
