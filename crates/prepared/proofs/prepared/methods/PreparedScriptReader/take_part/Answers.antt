use Rattle.std.proofs.Common.{ap, ◌∙◌}
use Rattle.parts.specs.declared.Span.{Span}
use Rattle.reader.specs.Answers.{Answer}
use Rattle.reader.specs.Scenes.{past}
use Rattle.prepared.specs.Answers.{part_in}
use Rattle.prepared.specs.Means.{script_scene, script_tokens}
use Rattle.prepared.proofs.Counting.{answer_here}
use Rattle.prepared.proofs.Keeping.{prepared_lawful}
use Rattle.prepared.proofs.prepared.methods.PreparedScriptReader.take_part.Goals as goal

pub returns : goal.returns
returns c =
    let s = c.args.self.now in
    let same = answer_here (part_in s.records.now c.args.part) (script_tokens s) c.current.result s.left c.current.ensures.value s.counted in
    let answer = c.part_answer-answer.ensures in
    let took = c.take.ensures in
    record {
      value = took.value ∙ answer.result ∙ ap (λ (a : Answer Span). a.result) same;
      after = took.after ∙ ap (λ n. past n (script_scene s)) (answer.count ∙ ap (λ (a : Answer Span). a.count) same);
      sound = took.sound;
      lawful = prepared_lawful s.records.now;
    }
