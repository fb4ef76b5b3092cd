use Rattle.std.proofs.Common.{◌≡◌, ℕ, ◌+◌, List, [], length, Result}
use Rattle.class.specs.Taking.{decorators_d}
use Rattle.dialogue.specs.Spoken.{Spoke}
use Rattle.dialogue.specs.declared.Fatal.{Fatal}
use Rattle.list.specs.declared.list.List.{List as Held}
use Rattle.parts.specs.declared.Span.{Span}
use Rattle.reader.specs.Scenes.{Scene, scene}
use Rattle.records.specs.Decorators.{spans_of}
use Rattle.reports.specs.declared.Report.{Report}
use Rattle.class.proofs.decorating.take_decorators.Given as goal

-- what is said from here on ends what was said from the start
abbrev pub invariant-loop : goal.invariant-loop
invariant-loop g l =
    record {
      taken : length (spans_of l.decorators) ≡ l.counter;
      onward :
          (n : ℕ) (s : Scene) (k : Held Report) (r : Result (List Span) Fatal) → length (spans_of l.decorators) + n ≡ 16
          → Spoke (decorators_d l.context.bits n (spans_of l.decorators)) (scene g.S.TokenReader l.script) s l.reports k r
          → Spoke (decorators_d l.context.bits 16 []) (scene g.S.TokenReader l.initial.script) s l.initial.reports k r;
    }
