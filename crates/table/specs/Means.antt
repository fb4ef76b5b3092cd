-- What a reader over a table means.
use Rattle.std.specs.Prelude.{ℕ, List, drop}
use Rattle.reader.specs.Tokens.{closed}
use Rattle.table.specs.declared.table.Table.{Table}
use Rattle.token.specs.declared.Token.{Token}

-- the tokens from its place on, up to Eof
abbrev pub table_tokens : Table → List Token
table_tokens s = closed (drop s.at s.tokens.now)

abbrev pub table_last : Table → ℕ
table_last s = s.taken
