use Rattle.std.proofs.Common.{ℕ, ap, rules}
use Rattle.class.proofs.Steps.{spoke_as}
use Rattle.class.specs.Taking.{inserted_d, semicolon_or_d}
use Rattle.dialogue.specs.Dialogues.{stop}
use Rattle.dialogue.specs.declared.Fatal.TheVariants.{AutoSemicolonInsertion}
use Rattle.class.proofs.reading.Reading.take_inserted.Goals as goal

pub returns : goal.returns
unfolding inserted_d
returns g c =
    let x = spoke_as (ap (λ (e : ℕ). semicolon_or_d (λ _. stop AutoSemicolonInsertion (record { start = e; end = e }))) c.last_end-end.ensures.value) c.take_semicolon_or.ensures.spoke in
    record { spoke = record { value = x.value; means = x.means; reports = x.reports }; kept = search rules }
