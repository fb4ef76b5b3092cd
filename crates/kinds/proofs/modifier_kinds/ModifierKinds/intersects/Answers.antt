use Rattle.std.proofs.Common.{true}
use Rattle.kinds.specs.Modifiers.{modifier_number}
use Rattle.kinds.proofs.Numbered.{modifier_in}
use Rattle.kinds.proofs.modifier_kinds.ModifierKinds.intersects.Goals as goal

pub returns : goal.returns
returns c =
    let set = c.args.self in
    record {
      holds = λ t.
          let m = c.intersects.ensures.holds t in
          modifier_in set.bits c.args.other.bits m.0 true set.ok m.1 m.2;
      fails = λ e k. c.intersects.ensures.fails e (modifier_number k);
    }
