-- Which tables are refused, and what a reader over a table means at first.
use Rattle.std.specs.Prelude.{cond, ◌&&◌, List, [], ◌∷◌, length, is_some, nat_le}
use Rattle.reader.specs.Sound.{all_known, all_placed}
use Rattle.reader.specs.Tokens.{ended, eof0}
use Rattle.refusal.specs.Questions.{Question, first_no}
use Rattle.token.specs.declared.Token.{Token}

-- 1: from 1 to 65,536 tokens? 2: every token known? 3: Eof last and only there? 4: every token sized and placed?
abbrev pub table_questions : List Token → List Question
table_questions ts =
    (1, nat_le 1 (length ts) && nat_le (length ts) 65536) ∷ ((2, all_known ts) ∷ ((3, ended ts) ∷ ((4, all_placed ts) ∷ [])))

-- the table itself, or Eof at 0 alone
abbrev pub table_meaning : List Token → List Token
table_meaning ts = cond (is_some (first_no (table_questions ts))) (eof0 ∷ []) ts
