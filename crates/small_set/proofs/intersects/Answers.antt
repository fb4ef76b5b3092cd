use Rattle.std.proofs.Common.{sym, ◌∙◌}
use Rattle.std.proofs.lemmas.Bool.{and_parts}
use Rattle.small_set.proofs.Bits.{inhabited, empty}
use Rattle.small_set.proofs.intersects.Goals as goal

pub returns : goal.returns
returns c =
    let r = c.intersection.result in
    let each = c.intersection.ensures.each in
    record {
      holds = λ t.
          let m = inhabited r c.intersection.type_inv t in
          let p = and_parts _ _ (sym (each m.0) ∙ m.1) in
          (m.0, p.0, p.1);
      fails = λ e j. sym (each j) ∙ empty r e j;
    }
