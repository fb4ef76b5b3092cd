use Rattle.std.proofs.Common.{◌||◌, take, sym, ap, ◌∙◌, arith}
use Rattle.std.specs.List.{list_all}
use Rattle.std.proofs.lemmas.Bool.{and_parts, or_parts}
use Rattle.kinds.specs.Modifiers.{modifier_number}
use Rattle.modifiers.specs.Entries.{above, apart, ascending, fits, keeps, listed, same_kind, without, word_at}
use Rattle.modifiers.specs.Lists.{entries}
use Rattle.modifiers.proofs.Kept.{all_left, all_one_more, apart_added, keeps_added, rising_added}
use Rattle.modifiers.proofs.Held.{blank_moved, order_known, order_listed, room_left}
use Rattle.modifiers.proofs.modifiers.Modifiers.with.Goals as goal

pub bounds-order-len : goal.bounds-order-len
bounds-order-len c =
    let m = c.args.self in
    let rest = c.others-len.ensures in
    room_left m.starts c.others-len.result.0 (take m.len m.order) c.others-len.result.1 c.number-n.result
    c.args.kind c.number-n.ensures (omega arith) rest.kept m.known m.once

pub invariant_of-result : goal.invariant_of-result
unfolding entries
invariant_of-result c =
    let m = c.args.self in
    let kind = c.args.kind in
    let one = word_at kind c.args.start in
    let n = c.number-n.result in
    let e = c.number-n.ensures in
    let xs = take m.len m.order in
    let old = listed m.starts xs in
    let w = c.others-len.result.1 in
    let rest = c.others-len.ensures in
    let low = room_left m.starts c.others-len.result.0 xs w n kind e (omega arith) rest.kept m.known m.once in
    let new = order_listed m.starts c.others-len.result.0 xs w n c.args.start kind e (omega arith) (omega arith) rest.kept m.known in
    let may = and_parts (above c.args.start old) (fits one) c.requires in
    record {
      few = omega arith;
      known = order_known m.starts c.others-len.result.0 xs w n c.args.start kind e (omega arith) (omega arith) rest.kept m.known;
      once = ap apart new ∙ apart_added old one m.once;
      same = λ k. c.with-kinds.ensures (modifier_number k) ∙ ap (λ b. same_kind kind k || b) (m.same k) ∙ sym (keeps_added k old one) ∙ sym (ap (keeps k) new);
      rising = ap ascending new ∙ rising_added old one m.rising may.0;
      blank = λ k f.
          let fs = or_parts (same_kind kind k) _ (sym (c.with-kinds.ensures (modifier_number k)) ∙ f) in
          blank_moved m.starts n c.args.start kind k e fs.0 (m.blank k fs.1);
      within = ap (list_all fits) new ∙ all_one_more fits (without kind old) one (all_left fits kind old m.within) may.1;
    }

pub returns : goal.returns
unfolding entries
returns c =
    let m = c.args.self in
    let xs = take m.len m.order in
    let n = c.number-n.result in
    let w = c.others-len.result.1 in
    let rest = c.others-len.ensures in
    let low = room_left m.starts c.others-len.result.0 xs w n c.args.kind c.number-n.ensures (omega arith) rest.kept m.known m.once in
    order_listed m.starts c.others-len.result.0 xs w n c.args.start c.args.kind c.number-n.ensures
    (omega arith) (omega arith) rest.kept m.known
