-- Reading a member.
use Rattle.std.specs.Prelude.{◌≡◌, Result}
use Rattle.dialogue.specs.Dialogues.{Dialogue}
use Rattle.dialogue.specs.Spoken.{Spoke}
use Rattle.dialogue.specs.declared.Fatal.{Fatal}
use Rattle.kinds.specs.declared.context.Context.{Context}
use Rattle.reader.specs.Scenes.{scene}
use Rattle.reader.specs.declared.TokenReader.{Ghosts}
use Rattle.class.specs.declared.reading.Reading.{Reading}

-- what stays while a piece is read: the language, and what is lent
pub record Kept {S : Type 0} (x y : Reading S) : Type 0 where
  pub is_ts : y.is_ts ≡ x.is_ts
  pub script : y.script.ghost_name ≡ x.script.ghost_name
  pub reports : y.reports.ghost_name ≡ x.reports.ghost_name

-- a piece is read: its dialogue is spoken with the reader, its reports are noted, and it answers what the dialogue does
pub record Reads {S A : Type 0} (g : Ghosts S) (d : Dialogue A) (x y : Reading S) (r : Result A Fatal) : Type 0 where
  pub spoke : Spoke d (scene g x.script.now) (scene g y.script.now) x.reports.now y.reports.now r
  pub kept : Kept x y

-- the same, of a piece that is lent the context and gives it back as it was
pub record ReadsIn {S A : Type 0} (g : Ghosts S) (d : Dialogue A) (x y : Reading S) (b b' : Context) (r : Result A Fatal) : Type 0 where
  pub spoke : Spoke d (scene g x.script.now) (scene g y.script.now) x.reports.now y.reports.now r
  pub kept : Kept x y
  pub context : b' ≡ b
