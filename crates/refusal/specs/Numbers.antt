-- Each refusal by its number: 1 to 4 of a token table, 5 and 6 of a text, 7 to 11 of a session's calls.
use Rattle.std.specs.Prelude.{ℕ}
use Rattle.refusal.specs.declared.Refusal.{Refusal}
use Rattle.refusal.specs.declared.Refusal.TheVariants.{TokenCount, TokenKind, EofPlace, TokenPlace, TextLength, TextByte, NotFresh, NoOpenBrace, NotOpen, NoMemberPlace, NoCloseBrace}

abbrev pub refusal_number : Refusal → ℕ
refusal_number TokenCount = 1
refusal_number TokenKind = 2
refusal_number EofPlace = 3
refusal_number TokenPlace = 4
refusal_number TextLength = 5
refusal_number TextByte = 6
refusal_number NotFresh = 7
refusal_number NoOpenBrace = 8
refusal_number NotOpen = 9
refusal_number NoMemberPlace = 10
refusal_number NoCloseBrace = 11
