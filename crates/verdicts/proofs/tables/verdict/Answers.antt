use Rattle.std.proofs.Common.{◌≡◌, sym, ap, ◌∙◌, ap₂}
use Rattle.kinds.proofs.Numbered.{numbers}
use Rattle.verdicts.specs.Verdicts.{kind_at, rule_at, rule_of, rule_or_0, verdict_of}
use Rattle.verdicts.proofs.Pairs.{rule_known}
use Rattle.verdicts.proofs.tables.verdict.Goals as goal

pub returns : goal.returns
unfolding verdict_of
returns c =
    let later = c.args.later in
    let earlier = c.args.earlier in
    let found : c.verdict_at.result ≡ verdict_of later earlier =
    c.verdict_at.ensures
    ∙ ap₂ (λ t e. verdict_of (kind_at t) (kind_at e)) c.number.ensures c.number-2.ensures
    ∙ ap₂ verdict_of (numbers later).0 (numbers earlier).0 in
    let rule : c.rule_at.result ≡ rule_of later earlier = c.rule_at.ensures ∙ ap rule_at found ∙ sym (rule_known later earlier) in
    record { rule = rule; number = ap rule_or_0 rule }
