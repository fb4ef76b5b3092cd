use Rattle.std.proofs.Common.{◌≡◌, length}
use Rattle.dialogue.specs.Dialogues.{semicolons}
use Rattle.reader.specs.Scenes.{past, scene}
use Rattle.class.proofs.taking.skip_semicolons.Given as goal

abbrev pub invariant-loop-script : goal.invariant-loop-script
invariant-loop-script g l =
    past (semicolons (g.S.TokenReader.tokens l.script)) (scene g.S.TokenReader l.script)
    ≡ past (semicolons (g.S.TokenReader.tokens l.initial.script)) (scene g.S.TokenReader l.initial.script)

abbrev pub decreases-loop-script : goal.decreases-loop-script
decreases-loop-script g l = length (g.S.TokenReader.tokens l.script)
