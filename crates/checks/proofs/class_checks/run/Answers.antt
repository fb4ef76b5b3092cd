use Rattle.std.proofs.Common.{◌≡◌, ◌^◌, ◌<◌, List, ◌∙◌, subst, lit<}
use Rattle.checks.specs.ClassChecks.{allowed_in, check_reports, says_in, strict_in}
use Rattle.checks.specs.Sayings.{disallowed_reports}
use Rattle.checks.specs.declared.class_check.ClassCheck.{ClassCheck}
use Rattle.checks.specs.declared.class_check.ClassCheck.TheVariants.{Element, JavaScript, StaticBlock, IndexSignature, ConstInOut, PrivateName, AccessorProperty, Accessor, Constructor, Method, Property}
use Rattle.list.specs.Lists.{Noted}
use Rattle.modifiers.specs.Lists.{entries}
use Rattle.reports.specs.declared.Report.{Report}
use Rattle.verdicts.specs.Verdicts.{packed}
use Rattle.checks.proofs.class_checks.run.Goals as goal

fits : (c : ClassCheck) → packed (allowed_in c) < 2 ^ 15
fits Element = lit< tt
fits JavaScript = lit< tt
fits StaticBlock = lit< tt
fits IndexSignature = lit< tt
fits ConstInOut = lit< tt
fits PrivateName = lit< tt
fits AccessorProperty = lit< tt
fits Accessor = lit< tt
fits Constructor = lit< tt
fits Method = lit< tt
fits Property = lit< tt

pub set-requires : goal.set-requires
set-requires g c = rw c.bits.ensures (fits c.args.check)

pub returns : goal.returns
unfolding check_reports
returns g c =
    let k = c.args.check in
    let ms = entries c.args.modifiers in
    let bits = c.set.ensures ∙ c.bits.ensures in
    let same : disallowed_reports c.set.result.bits c.is_strict.result (g.W.Wording.says c.args.wording) ms ≡ disallowed_reports (packed (allowed_in k)) (strict_in k) (says_in k) ms = cc in
    subst (λ (rs : List Report). Noted c.args.reports.now c.verify_modifiers.new.reports rs) same c.verify_modifiers.ensures.noted
