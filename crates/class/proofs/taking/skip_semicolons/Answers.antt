use Rattle.std.proofs.Common.{sym, ap, ◌∙◌}
use Rattle.class.specs.Taking.{is_kind}
use Rattle.class.proofs.Steps.{semicolon_more}
use Rattle.reader.specs.Scenes.{scene}
use Rattle.token.specs.Kinds.{k_semicolon}
use Rattle.token.specs.declared.Token.{Token}
use Rattle.class.proofs.taking.skip_semicolons.Goals as goal

pub loop-script-preserved : goal.loop-script-preserved
loop-script-preserved g c =
    let e = ap (λ (t : Token). is_kind k_semicolon t.kind.code) c.current.ensures.value in
    semicolon_more (scene g.S.TokenReader c.loop-script.script) (sym e ∙ sym c.loop-script-test.ensures) c.take.ensures ∙ c.loop-script.invariant
