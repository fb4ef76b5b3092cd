use Rattle.std.proofs.Common.{◌≡◌, true, false, List, ◌∷◌, sym, ◌∙◌, subst, rules}
use Rattle.reader.proofs.Closing.{ended_closed, sound_ended}
use Rattle.reader.specs.Sound.{sound}
use Rattle.reader.specs.Tokens.{closed}
use Rattle.token.specs.declared.Token.{Token}
use Rattle.trivia.proofs.Stripping.{stripped_sound}
use Rattle.trivia.specs.Kept.{without_skips}
use Rattle.trivia.proofs.Trivia.new.Goals as goal

pub returns-clause-sound : goal.returns-clause-sound
returns-clause-sound g c =
    let ts = g.R.TokenReader.tokens c.args.below in
    let rest = without_skips false (g.R.TokenReader.tokens c.next_kept-fourth.new.below) in
    let e : closed (c.next_kept-first.result ∷ (c.next_kept-second.result ∷ (c.next_kept-third.result ∷ (c.next_kept-fourth.result ∷ rest)))) ≡ closed (without_skips false ts) = search rules in
    let P : List Token → Type 0 = λ l. sound l ≡ true in
    λ h.
    let s = stripped_sound ts h in
    let f = e ∙ ended_closed (without_skips false ts) (sound_ended (without_skips false ts) s) in
    (f, subst P (sym f) s)
