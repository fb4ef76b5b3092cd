use Rattle.std.proofs.Common.{◌≡◌, List, [], ◌∷◌, Some, None, sym, ap, ◌∙◌, ap₂, subst}
use Rattle.keywords.proofs.Reading.{some_is}
use Rattle.keywords.specs.Run.{reports_of}
use Rattle.list.specs.Lists.{Noted}
use Rattle.modifiers.specs.Entries.{fits, keeps, place_of, word_at}
use Rattle.modifiers.specs.Lists.{entries}
use Rattle.reports.specs.Reports.{keyword_report}
use Rattle.reports.specs.declared.Report.{Report}
use Rattle.kinds.specs.Modifiers.{modifier_number}
use Rattle.rules.specs.Rules.{rule_number}
use Rattle.small_set.specs.Members.{member}
use Rattle.verdicts.proofs.Ordered.{order_alike}
use Rattle.verdicts.specs.Orders.{order_of}
use Rattle.keywords.proofs.report_order.Goals as goal

pub returns : goal.returns
returns c h =
    let ms = entries c.args.kept.now in
    let k = c.args.kind in
    let m = word_at k c.args.start in
    let v = c.in-Some.verdict in
    let said : order_of (λ j. keeps j ms) k ≡ Some v =
    sym (order_alike (λ j. member c.kinds.result.bits (modifier_number j)) (λ j. keeps j ms) c.kinds.ensures k) ∙ sym c.order_verdict.ensures ∙ c.in-Some.is in
    let there : c.in-Some-place.place ≡ place_of m = some_is (fits m) (place_of m) _ (sym c.in-Some-place.is ∙ c.place.ensures) in
    let made : c.of_keyword.result ≡ keyword_report (rule_number v.rule) k (place_of m) v.other None =
    c.of_keyword.ensures ∙ ap₂ (λ n p. keyword_report n k p v.other None) c.number-rule.ensures there in
    subst (λ (rs : List Report). Noted c.args.reports.now c.push.new.self rs)
    (ap (λ r. r ∷ []) made ∙ sym (ap (λ o. reports_of o m) said)) c.push.ensures.noted
