use Rattle.std.proofs.Common.{◌≡◌, ◌+◌, ◌*◌, ◌/◌, ◌%◌, ◌<◌, ap, ◌∙◌, arith}
use Rattle.std.proofs.lemmas.List.FromFn.{get_or-map-range_with_len}
use Rattle.verdicts.specs.Verdicts.{kind_at, forbids, rule_of, verdict_of}
use Rattle.verdicts.proofs.tables.verdict_at.Goals as goal

-- The table is the list of the rule's values at 0, 1, .. 224, which the checker computes and compares.
pub returns : goal.returns
unfolding verdict_of rule_of forbids
returns c =
    let t = c.args.later in
    let e = c.args.earlier in
    let lt : t * 15 + e < 225 = omega arith in
    let q : (t * 15 + e) / 15 ≡ t = omega arith in
    let r : (t * 15 + e) % 15 ≡ e = omega arith in
    get_or-map-range_with_len (λ k. verdict_of (kind_at (k / 15)) (kind_at (k % 15))) 0 225 (t * 15 + e) (t * 15 + e) 0 lt (omega arith)
    ∙ ap (λ a. verdict_of (kind_at a) (kind_at ((t * 15 + e) % 15))) q
    ∙ ap (λ a. verdict_of (kind_at t) (kind_at a)) r
