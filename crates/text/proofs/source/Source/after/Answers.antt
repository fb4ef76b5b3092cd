use Rattle.std.proofs.Common.{ap, ◌∙◌, arith}
use Rattle.std.proofs.lemmas.Bool.Decides.{nat_tests}
use Rattle.text.specs.Means.{held_tokens}
use Rattle.text.proofs.Lexing.{held_at, held_next}
use Rattle.text.proofs.source.Source.after.Goals as goal

pub returns-else-eq : goal.returns-else-eq
returns-else-eq c =
    let t = c.args.t in
    let bs = c.args.self.now.bytes.now in
    ap (λ u. held_tokens u bs) c.token_at.ensures ∙ held_at t.end bs ∙ held_next t bs (grind (arith, nat_tests))
