use Rattle.std.proofs.Common.{◌≡◌, true, false, eqb, sym, ap, ◌∙◌}
use Rattle.reader.specs.Tokens.{head}
use Rattle.token.specs.Kinds.{k_lcurly}
use Rattle.brackets.proofs.Answering.{followed, given, if_not, if_so, refused_as, stopped}
use Rattle.brackets.proofs.members.body.Goals as goal

pub returns-in_err-block : goal.returns-in_err-block
returns-in_err-block g c =
    let t = head (g.R.TokenReader.tokens c.args.r.now) in
    let h : eqb t.kind.code k_lcurly ≡ true = ap (λ u. eqb u.kind.code k_lcurly) (sym c.current.ensures.value) ∙ sym c.eq.ensures ∙ c.if-eq.true in
    let f = c.from_residual in
    refused_as f.result f.ensures.1 (if_so _ _ (eqb t.kind.code k_lcurly) h (stopped _ _ c.in_err-block.ensures))

pub returns-then-eq : goal.returns-then-eq
returns-then-eq g c =
    let t = head (g.R.TokenReader.tokens c.args.r.now) in
    let h : eqb t.kind.code k_lcurly ≡ true = ap (λ u. eqb u.kind.code k_lcurly) (sym c.current.ensures.value) ∙ sym c.eq.ensures ∙ c.if-eq.true in
    if_so _ _ (eqb t.kind.code k_lcurly) h (followed _ _ c.in_ok-block.ensures (given _ _))

pub returns-in_err-semicolon : goal.returns-in_err-semicolon
returns-in_err-semicolon g c =
    let t = head (g.R.TokenReader.tokens c.args.r.now) in
    let h : eqb t.kind.code k_lcurly ≡ false = ap (λ u. eqb u.kind.code k_lcurly) (sym c.current.ensures.value) ∙ sym c.eq.ensures ∙ c.if-eq.false in
    let f = c.from_residual-in_err-semicolon in
    refused_as f.result f.ensures.1 (if_not _ _ (eqb t.kind.code k_lcurly) h (stopped _ _ c.in_err-semicolon.ensures))

pub returns : goal.returns
returns g c =
    let t = head (g.R.TokenReader.tokens c.args.r.now) in
    let h : eqb t.kind.code k_lcurly ≡ false = ap (λ u. eqb u.kind.code k_lcurly) (sym c.current.ensures.value) ∙ sym c.eq.ensures ∙ c.if-eq.false in
    if_not _ _ (eqb t.kind.code k_lcurly) h (followed _ _ c.in_ok-semicolon.ensures (given _ _))
