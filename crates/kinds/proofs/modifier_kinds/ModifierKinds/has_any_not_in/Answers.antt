use Rattle.std.proofs.Common.{false}
use Rattle.kinds.specs.Modifiers.{modifier_number}
use Rattle.kinds.proofs.Numbered.{modifier_in}
use Rattle.kinds.proofs.modifier_kinds.ModifierKinds.has_any_not_in.Goals as goal

pub returns : goal.returns
returns c =
    let set = c.args.self in
    record {
      holds = λ t.
          let m = c.has_any_not_in.ensures.holds t in
          modifier_in set.bits c.args.other.bits m.0 false set.ok m.1 m.2;
      fails = λ e k. c.has_any_not_in.ensures.fails e (modifier_number k);
    }
