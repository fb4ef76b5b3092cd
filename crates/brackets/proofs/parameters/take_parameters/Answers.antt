use Rattle.std.proofs.Common.{◌≡◌, true, false, eqb, sym, ap, ◌∙◌, arith, eq-eqb, true-eqb}
use Rattle.reader.specs.Scenes.{scene}
use Rattle.reader.specs.Tokens.{head}
use Rattle.token.specs.Kinds.{k_comma}
use Rattle.brackets.proofs.Answering.{moved}
use Rattle.brackets.proofs.Listing.{first_read, length_turn, parts_end, parts_turn, scene_end, scene_read, scene_turn}
use Rattle.brackets.proofs.parameters.take_parameters.Goals as goal

pub loop-r-smaller : goal.loop-r-smaller
loop-r-smaller g c =
    let s = scene g.R.TokenReader c.loop-r.r in
    let e = c.advance.ensures in
    let k : (head s.tokens).kind.code ≡ k_comma = true-eqb _ _ (sym (ap (λ t. eqb t.kind.code k_comma) (sym c.current.ensures.value) ∙ sym c.eq.ensures ∙ c.loop-r-test.true)) in
    length_turn s _ _ k (moved s.tokens s.last e.tokens e.last e.answers) c.take_stretch-s-in-loop-r.ensures.after

pub loop-r-preserved : goal.loop-r-preserved
loop-r-preserved g c =
    let s = scene g.R.TokenReader c.loop-r.r in
    let e = c.advance.ensures in
    let k : (head s.tokens).kind.code ≡ k_comma = true-eqb _ _ (sym (ap (λ t. eqb t.kind.code k_comma) (sym c.current.ensures.value) ∙ sym c.eq.ensures ∙ c.loop-r-test.true)) in
    let q = moved s.tokens s.last e.tokens e.last e.answers in
    let w = c.take_stretch-s-in-loop-r in
    record {
      after = scene_turn s _ _ k q w.ensures.after ∙ c.loop-r.invariant.after;
      value = parts_turn s _ _ k q w.ensures.after c.loop-r.found c.with_one-found.result w.result w.ensures.value c.with_one-found.ensures ∙ c.loop-r.invariant.value;
      few = omega arith;
    }

pub returns : goal.returns
returns g c =
    let s₀ = scene g.R.TokenReader c.args.r.now in
    let s = scene g.R.TokenReader c.loop-r.r in
    let k : (head s.tokens).kind.code ≡ k_comma → ⊥ = λ e. let h : eqb (head s.tokens).kind.code k_comma ≡ false = ap (λ t. eqb t.kind.code k_comma) (sym c.current.ensures.value) ∙ sym c.eq.ensures ∙ c.loop-r-test.false in let y : eqb (head s.tokens).kind.code k_comma ≡ true = eq-eqb _ _ e in cc in
    let w = c.take_stretch-s in
    record {
      value = parts_end s k c.loop-r.found c.loop-r.invariant.few ∙ c.loop-r.invariant.value ∙ first_read s₀ _ w.ensures.after c.started-found.result w.result w.ensures.value c.started-found.ensures;
      after = scene_end s k ∙ c.loop-r.invariant.after ∙ scene_read s₀ _ w.ensures.after;
    }
