use Rattle.std.proofs.Common.{◌≡◌, ◌+◌, ◌-◌, length, get_or, take, ltb, sym, ap, ◌∙◌, arith, take_all}
use Rattle.std.proofs.lemmas.Bool.{ltb-false}
use Rattle.std.proofs.lemmas.Option.{get_or_from_slice_get, slice_get_within}
use Rattle.modifiers.specs.Entries.{above, ascending, listed}
use Rattle.modifiers.specs.Lists.{entries}
use Rattle.modifiers.proofs.Held.{above_all}
use Rattle.modifiers.proofs.modifiers.Modifiers.is_below.Goals as goal

pub returns-in-Some : goal.returns-in-Some
unfolding entries
returns-in-Some c =
    let m = c.args.self in
    let start = c.args.start in
    let n = c.in-Some.n.now in
    let ns = take m.len m.order in
    let i = length ns - 1 in
    let found = sym c.in-Some.ensures.value in
    let inside = slice_get_within ns i n found in
    let all : take (i + 1) ns ≡ ns = take_all (i + 1) ns (omega arith) in
    sym (ap (λ xs. above start (listed m.starts xs)) (sym all)
    ∙ above_all m.starts ns i start inside (ap (λ xs. ascending (listed m.starts xs)) all ∙ m.rising)
    ∙ ap (λ x. ltb (get_or m.starts x 0) start) (get_or_from_slice_get ns i n 0 found))

pub returns-in-None : goal.returns-in-None
unfolding entries
returns-in-None c =
    let m = c.args.self in
    let ns = take m.len m.order in
    ap (λ xs. above c.args.start (listed m.starts xs)) (take_all 0 ns (ltb-false 0 (length ns) (sym c.in-None.ensures.item.0)))
