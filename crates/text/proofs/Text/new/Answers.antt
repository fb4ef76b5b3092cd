use Rattle.std.proofs.Common.{◌≡◌, true, List, sym, ap, ◌∙◌, subst}
use Rattle.reader.specs.Sound.{sound}
use Rattle.token.specs.declared.Token.{Token}
use Rattle.text.specs.Lexed.{lexed, text_meaning}
use Rattle.text.specs.Means.{held_tokens}
use Rattle.text.proofs.Lexing.{held_at, lexed_sound}
use Rattle.text.proofs.Text.new.Goals as goal

pub returns-in-Ok-clause-tokens : goal.returns-in-Ok-clause-tokens
returns-in-Ok-clause-tokens c =
    let bs = c.in-Ok.source.bytes.now in
    let h = c.in-Ok.ensures in
    let m : lexed c.args.text.now ≡ text_meaning c.args.text.now = rw (sym h.0) in
    ap (λ u. held_tokens u bs) c.token_at.ensures ∙ held_at 0 bs ∙ ap lexed h.1 ∙ m

pub returns-in-Ok-clause-sound : goal.returns-in-Ok-clause-sound
returns-in-Ok-clause-sound c =
    let bs = c.in-Ok.source.bytes.now in
    let P : List Token → Type 0 = λ l. sound l ≡ true in
    subst P (sym (ap (λ u. held_tokens u bs) c.token_at.ensures ∙ held_at 0 bs)) (lexed_sound bs)
