-- A table of words, as the code has it.
use Rattle.std.specs.Prelude.{ℕ, cond, List, [], ◌∷◌}
use Rattle.std.specs.Str.{bytes_eq}
use Rattle.token.specs.Kinds.{k_ident}
use Rattle.lexeme.specs.declared.words.Row.{Row}

-- the kind of the first row whose word is s, or a plain name's
abbrev pub rows_kind : List Row → List ℕ → ℕ
rows_kind [] s = k_ident
rows_kind (w ∷ ws) s = cond (bytes_eq s w.word.now) w.kind.code (rows_kind ws s)
