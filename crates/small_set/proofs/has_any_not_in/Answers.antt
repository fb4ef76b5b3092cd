use Rattle.std.proofs.Common.{not, ◌&&◌, sym, ap, ◌∙◌}
use Rattle.std.proofs.lemmas.Bool.{and_parts, not-true, not-false}
use Rattle.small_set.specs.Members.{member}
use Rattle.small_set.proofs.Bits.{inhabited, empty}
use Rattle.small_set.proofs.has_any_not_in.Goals as goal

pub returns : goal.returns
returns c =
    let r = c.difference.result in
    let each = c.difference.ensures.each in
    record {
      holds = λ t.
          let m = inhabited r c.difference.type_inv t in
          let p = and_parts _ _ (sym (each m.0) ∙ m.1) in
          (m.0, p.0, not-true _ p.1);
      fails = λ e j t. not-false _ (ap (λ b. b && not (member c.args.b j)) (sym t) ∙ sym (each j) ∙ empty r e j);
    }
