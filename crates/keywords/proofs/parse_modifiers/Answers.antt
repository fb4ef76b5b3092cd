use Rattle.std.proofs.Common.{◌^◌, ◌<◌, length, sym, refl, ap, arith}
use Rattle.keywords.proofs.Reading.{here, is_more, no_keyword, not_after, not_eligible, read_done, read_more}
use Rattle.modifiers.specs.Entries.{word_at}
use Rattle.modifiers.specs.Lists.{entries}
use Rattle.reader.proofs.Closing.{next_falls}
use Rattle.keywords.proofs.parse_modifiers.Goals as goal

pub returns-in_default : goal.returns-in_default
returns-in_default g c =
    let l : c.current-token.result.end < 2 ^ 32 = omega arith in
    let d = read_done c.loop-kind.kept c.current-token.ensures.value l c.loop-kind.invariant
    (no_keyword c.args.settings (entries c.loop-kind.kept) (g.R.TokenReader.tokens c.loop-kind.script) c.current-token.ensures.value c.in_default.ensures) in
    record { read = d.read; longest = d.longest; orders = d.orders }

pub returns-then-not-is_eligible : goal.returns-then-not-is_eligible
returns-then-not-is_eligible g c =
    let l : c.current-token.result.end < 2 ^ 32 = omega arith in
    let d = read_done c.loop-kind.kept c.current-token.ensures.value l c.loop-kind.invariant
    (not_eligible c.args.settings (entries c.loop-kind.kept) (g.R.TokenReader.tokens c.loop-kind.script) c.current-token.ensures.value c.peek.ensures.value c.in-Some.ensures c.contains-static_kept.ensures c.if-not-is_eligible.ensures) in
    record { read = d.read; longest = d.longest; orders = d.orders }

pub returns-then-not-add : goal.returns-then-not-add
returns-then-not-add g c =
    let l : c.current-token.result.end < 2 ^ 32 = omega arith in
    let d = read_done c.loop-kind.kept c.current-token.ensures.value l c.loop-kind.invariant
    (not_after c.args.settings (entries c.loop-kind.kept) (g.R.TokenReader.tokens c.loop-kind.script) c.current-token.ensures.value c.peek.ensures.value c.in-Some.ensures c.contains-static_kept.ensures c.if-not-is_eligible.ensures c.if-not-add.ensures.taken) in
    rw (c.if-not-add.ensures.refused refl) (record { read = d.read; longest = d.longest; orders = d.orders })

pub loop-kind-smaller : goal.loop-kind-smaller
loop-kind-smaller g c =
    let ts = g.R.TokenReader.tokens c.loop-kind.script in
    let e = ap length c.advance.ensures.tokens in
    let l = next_falls ts (is_more c.args.settings (entries c.loop-kind.kept) (g.R.TokenReader.tokens c.loop-kind.script) c.current-token.ensures.value c.peek.ensures.value c.in-Some.ensures c.contains-static_kept.ensures) in
    omega (arith, e, l)

pub loop-kind-preserved : goal.loop-kind-preserved
loop-kind-preserved g c =
    let t = c.advance.ensures in
    read_more (word_at c.in-Some.kind c.current-token.result.start) c.loop-kind.invariant
    (here c.args.settings (entries c.loop-kind.kept) (g.R.TokenReader.tokens c.loop-kind.script) c.current-token.ensures.value c.peek.ensures.value c.in-Some.ensures c.contains-static_kept.ensures c.if-not-is_eligible.ensures c.if-not-add.ensures.taken)
    (c.if-not-add.ensures.put refl) (λ i. record { tokens = t.tokens i; last = t.last i; answers = t.answers i })
    (c.report_order.ensures (sym c.if-not-add.ensures.taken))
