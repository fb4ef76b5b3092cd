use Rattle.std.proofs.Common.{◌≡◌, sym, ap, ◌∙◌}
use Rattle.kinds.specs.declared.context.ContextFlag.TheVariants.{In, Yield, Await, Return, NewTarget, Ambient}
use Rattle.guard.specs.Changes.{changed_bits}
use Rattle.guard.specs.declared.change.Change.{Change}
use Rattle.guard.specs.declared.change.Change.TheVariants.{ComputedName, Initializer, StaticBlock, Ambient as Declared}
use Rattle.guard.proofs.Flagging.{cleared_bits, set_bits}
use Rattle.guard.proofs.change.Change.of.Goals as goal

pub returns-in-ComputedName : goal.returns-in-ComputedName
unfolding changed_bits
returns-in-ComputedName c =
    let k = c.args.context in
    let e : c.with.result.bits ≡ changed_bits ComputedName k.bits = set_bits In k c.with.result c.with.ensures in
    e ∙ ap (λ (x : Change). changed_bits x k.bits) (sym c.in-ComputedName.is)

pub returns-in-Initializer : goal.returns-in-Initializer
unfolding changed_bits
returns-in-Initializer c =
    let k = c.args.context in
    let a = c.with-in-Initializer.result in
    let b = c.with-in-Initializer-2.result in
    let d = c.without.result in
    let r = c.without-in-Initializer.result in
    let ea = set_bits In k a c.with-in-Initializer.ensures in
    let eb = set_bits NewTarget a b c.with-in-Initializer-2.ensures in
    let ed = cleared_bits Yield b d c.without.ensures in
    let er = cleared_bits Await d r c.without-in-Initializer.ensures in
    let e : r.bits ≡ changed_bits Initializer k.bits = cc in
    e ∙ ap (λ (x : Change). changed_bits x k.bits) (sym c.in-Initializer.is)

pub returns-in-StaticBlock : goal.returns-in-StaticBlock
unfolding changed_bits
returns-in-StaticBlock c =
    let k = c.args.context in
    let a = c.with-in-StaticBlock.result in
    let b = c.with-in-StaticBlock-2.result in
    let m = c.with-in-StaticBlock-3.result in
    let d = c.without-in-StaticBlock.result in
    let r = c.without-in-StaticBlock-2.result in
    let ea = set_bits In k a c.with-in-StaticBlock.ensures in
    let eb = set_bits Await a b c.with-in-StaticBlock-2.ensures in
    let em = set_bits NewTarget b m c.with-in-StaticBlock-3.ensures in
    let ed = cleared_bits Yield m d c.without-in-StaticBlock.ensures in
    let er = cleared_bits Return d r c.without-in-StaticBlock-2.ensures in
    let e : r.bits ≡ changed_bits StaticBlock k.bits = cc in
    e ∙ ap (λ (x : Change). changed_bits x k.bits) (sym c.in-StaticBlock.is)

pub returns-in-Ambient : goal.returns-in-Ambient
unfolding changed_bits
returns-in-Ambient c =
    let k = c.args.context in
    let e : c.with-in-Ambient.result.bits ≡ changed_bits Declared k.bits = set_bits Ambient k c.with-in-Ambient.result c.with-in-Ambient.ensures in
    e ∙ ap (λ (x : Change). changed_bits x k.bits) (sym c.in-Ambient.is)
