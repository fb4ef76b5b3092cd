use Rattle.std.proofs.Common.{◌≡◌, true, None, Some, Option, sym, ap, ◌∙◌, rules}
use denote.Enum.Bare.{same_true, true_same}
use Rattle.rules.specs.contracts.Rule.{the_type}
use Rattle.rules.specs.contracts.RulePartialEq.TheImpl.{eq-value}
use Rattle.rules.specs.declared.Rule.{Rule}
use Rattle.std.specs.Option.{option_eq}
use Rattle.std.proofs.lemmas.Bool.{false≢true}
use Rattle.verdicts.proofs.order.gives.Goals as goal

-- the derived comparison
same : (o : Option Rule) (r : Rule) → option_eq eq-value.it o (Some r) ≡ true → o ≡ Some r
same None r h = absurd (false≢true h)
same (Some x) r h = ap Some (same_true the_type (search rules) x r h)

alike : (o : Option Rule) (r : Rule) → o ≡ Some r → option_eq eq-value.it o (Some r) ≡ true
alike None r h = cc
alike (Some x) r h = true_same the_type x r cc

pub returns-then-contains : goal.returns-then-contains
returns-then-contains c = (
  λ h. (sym c.contains.ensures ∙ c.if-contains.true, sym c.verdict.ensures.rule ∙ same _ _ (sym c.eq.ensures ∙ h)),
  λ p. c.eq.ensures ∙ alike _ _ (c.verdict.ensures.rule ∙ p.1),
)
