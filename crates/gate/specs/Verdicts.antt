-- What a class body is judged to be.
use Rattle.std.specs.Prelude.{◌≡◌, ℕ, true, false, List, is_some, Option}
use Rattle.brackets.specs.Format.{bracket_answers}
use Rattle.laws.specs.Bodies.{ReadFrom}
use Rattle.reader.specs.Scenes.{Scene}
use Rattle.records.specs.Told.{Told}
use Rattle.refusal.specs.Questions.{first_no}
use Rattle.reports.specs.declared.Report.{Report}
use Rattle.session.specs.Boards.{Board}
use Rattle.session.specs.Worlds.{Answer, World, fresh_session, tells, world_of}
use Rattle.session.specs.declared.state.Call.TheVariants.{Open, Standing}
use Rattle.session.specs.declared.state.Language.TheVariants.{TypeScript}
use Rattle.small_set.specs.Members.{member}
use Rattle.kinds.specs.declared.context.Context.{Context}
use Rattle.text.specs.Lexed.{lexed, text_questions}
use Rattle.token.specs.declared.Token.{Token}
use Rattle.trivia.specs.Kept.{without_skips}

-- the tokens of a text but for blanks and comments
abbrev pub tokens_of : List ℕ → List Token
tokens_of bs = without_skips false (lexed bs)

-- what the bracket reader means over them before a token is taken
abbrev pub scene_of : List ℕ → Scene
scene_of bs = record { tokens = tokens_of bs; last = 0; answers = bracket_answers }

-- a text that questions 5 and 6 refuse is not opened, and nothing is noted; any other is read whole in a fresh session of
-- TypeScript in an empty context; what is told stands so in the end
pub record Judged (bs : List ℕ) (refused : Option ℕ) (says : Answer) (r r' : Board Report) (m m' : Board Told) : Type 0 where
  pub context : Context
  pub empty : (j : ℕ) → member context.bits j ≡ false
  pub final : World
  pub reports : final.reports ≡ r'
  pub members : final.members ≡ m'
  pub unread : is_some (first_no (text_questions bs)) ≡ true → (refused ≡ first_no (text_questions bs)) × (final ≡ world_of (fresh_session TypeScript context) (scene_of bs) r m)
  pub read : is_some (first_no (text_questions bs)) ≡ false → ReadFrom Open refused (world_of (fresh_session TypeScript context) (scene_of bs) r m) final
  pub stands : says ≡ tells Standing final
