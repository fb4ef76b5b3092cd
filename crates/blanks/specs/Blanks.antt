-- Values with nothing in them.
use Rattle.std.specs.Prelude.{ℕ, false, []}
use Rattle.parts.specs.declared.Span.{Span}
use Rattle.records.specs.Told.{Told}
use Rattle.records.specs.declared.record.Form.TheVariants.{StaticBlock}
use Rattle.token.specs.declared.Token.{Token}

abbrev pub nowhere : Span
nowhere = record { start = 0; end = 0 }

-- a token of no name after no line break
abbrev pub plain_token : ℕ → ℕ → ℕ → Token
plain_token k s e = record { kind = record { code = k }; start = s; end = e; line_break = false; name = 0 }

-- what the record of no member tells
abbrev pub blank_told : Told
blank_told = record { span = nowhere; kept = []; decorators = []; form = StaticBlock nowhere }
