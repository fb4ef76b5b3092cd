-- What a prepared reader means.
use Rattle.std.specs.Prelude.{ℕ, List}
use Rattle.reader.specs.Answers.{Answers}
use Rattle.reader.specs.Scenes.{Scene}
use Rattle.table.specs.Means.{table_last, table_tokens}
use Rattle.token.specs.declared.Token.{Token}
use Rattle.prepared.specs.Answers.{prepared_answers}
use Rattle.prepared.specs.declared.prepared.Prepared.{Prepared}

-- what the reader of its table means
abbrev pub script_tokens : Prepared → List Token
script_tokens s = table_tokens s.reader

abbrev pub script_last : Prepared → ℕ
script_last s = table_last s.reader

-- what its records answer
abbrev pub script_answers : Prepared → Answers
script_answers s = prepared_answers s.records.now

-- all of it
abbrev pub script_scene : Prepared → Scene
script_scene s = record { tokens = script_tokens s; last = script_last s; answers = script_answers s }
