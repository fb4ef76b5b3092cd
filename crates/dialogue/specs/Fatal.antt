-- The fatal rules among the rules, and by number.
use Rattle.std.specs.Prelude.{ℕ}
use Rattle.dialogue.specs.declared.Fatal.{Fatal}
use Rattle.dialogue.specs.declared.Fatal.TheVariants.{ExpectToken, AutoSemicolonInsertion, Unexpected, TooManyDecorators}
use Rattle.rules.specs.Rules.{rule_number}
use Rattle.rules.specs.declared.Rule.{Rule}
use Rattle.rules.specs.declared.Rule.TheVariants.{ExpectToken as RExpectToken, AutoSemicolonInsertion as RAutoSemicolonInsertion, Unexpected as RUnexpected, TooManyDecorators as RTooManyDecorators}

abbrev pub as_rule : Fatal → Rule
as_rule ExpectToken = RExpectToken
as_rule AutoSemicolonInsertion = RAutoSemicolonInsertion
as_rule Unexpected = RUnexpected
as_rule TooManyDecorators = RTooManyDecorators

abbrev pub fatal_number : Fatal → ℕ
fatal_number f = rule_number (as_rule f)
