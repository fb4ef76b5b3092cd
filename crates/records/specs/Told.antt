-- What a member record tells.
use Rattle.std.specs.Prelude.{List}
use Rattle.modifiers.specs.Lists.{entries}
use Rattle.modifiers.specs.declared.modifier.Modifier.{Modifier}
use Rattle.parts.specs.declared.Span.{Span}
use Rattle.records.specs.Decorators.{spans_of}
use Rattle.records.specs.declared.record.Form.{Form}
use Rattle.records.specs.declared.record.MemberRecord.{MemberRecord}

-- the member's span, each kept kind with its last start, the decorators' spans, and what belongs to the form
pub record Told : Type 0 where
  pub span : Span
  pub kept : List Modifier
  pub decorators : List Span
  pub form : Form

abbrev pub told_by : MemberRecord → Told
told_by r = record { span = r.span; kept = entries r.modifiers; decorators = spans_of r.decorators; form = r.form }
