use Rattle.std.proofs.Common.{ap, ◌∙◌, rules}
use Rattle.class.proofs.Steps.{spoke_as}
use Rattle.class.specs.Taking.{semicolon_d, semicolon_or_d}
use Rattle.dialogue.specs.Dialogues.{stop}
use Rattle.dialogue.specs.declared.Fatal.TheVariants.{ExpectToken}
use Rattle.parts.specs.declared.Span.{Span}
use Rattle.token.specs.Spans.{span_of}
use Rattle.class.proofs.reading.Reading.take_semicolon.Goals as goal

pub returns : goal.returns
unfolding semicolon_d
returns g c =
    let x = spoke_as (ap (λ (p : Span). semicolon_or_d (λ _. stop ExpectToken p)) (c.from-place.ensures ∙ ap span_of c.current.ensures.value)) c.take_semicolon_or.ensures.spoke in
    record { spoke = record { value = x.value; means = x.means; reports = x.reports }; kept = search rules }
