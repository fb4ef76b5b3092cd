-- A member as a dialogue with a script reader: what it looks at, takes, asks and reports, and what comes of it. A dialogue
-- sees of the reader only the current token and the next one, the tokens that it takes, the end of the last one taken,
-- and the answers to what it asks. It is a finite tree; semicolons and keyword lists are questions of their own.
use Rattle.std.specs.Prelude.{ℕ, ◌+◌, Bool, cond, List, [], ◌∷◌, ◌++◌, length, Ok, Err, Result, ◌==◌}
use Rattle.checks.specs.ClassChecks.{check_reports}
use Rattle.checks.specs.declared.class_check.ClassCheck.{ClassCheck}
use Rattle.keywords.specs.Run.{kept_of, lasts, order_reports}
use Rattle.keywords.specs.declared.ListSettings.{ListSettings}
use Rattle.modifiers.specs.declared.modifier.Modifier.{Modifier}
use Rattle.parts.specs.declared.MethodFacts.{MethodFacts}
use Rattle.parts.specs.declared.Part.{Part}
use Rattle.parts.specs.declared.Span.{Span}
use Rattle.reader.specs.Scenes.{Scene, past, past_one}
use Rattle.reader.specs.Tokens.{head, next}
use Rattle.reports.specs.Reports.{at_place}
use Rattle.reports.specs.declared.Report.{Report}
use Rattle.script.specs.Asking.{index_at, method_at, part_at}
use Rattle.token.specs.Kinds.{k_semicolon}
use Rattle.token.specs.declared.Token.{Token}
use Rattle.dialogue.specs.Fatal.{fatal_number}
use Rattle.dialogue.specs.declared.Fatal.{Fatal}

-- how many semicolons stand first
abbrev pub semicolons : List Token → ℕ
semicolons [] = 0
semicolons (t ∷ ts) = cond (t.kind.code == k_semicolon) (1 + semicolons ts) 0

pub data Dialogue (A : Type 0) : Type 0 where
  -- ends with a value
  done : A → Dialogue A
  -- a fatal rule at a place: all ends
  stop : Fatal → Span → Dialogue A
  -- reports
  note : List Report → Dialogue A → Dialogue A
  -- looks at the current token, and at the one after it
  look : (Token → Dialogue A) → Dialogue A
  peek : (Token → Dialogue A) → Dialogue A
  -- the end of the last token taken
  last : (ℕ → Dialogue A) → Dialogue A
  -- takes the current token if its kind passes, and goes on with it one way or the other
  eat : (ℕ → Bool) → (Token → Dialogue A) → (Token → Dialogue A) → Dialogue A
  -- takes the semicolons that stand first
  take_semicolons : Dialogue A → Dialogue A
  -- takes a keyword list, with its order reports, and goes on with what it keeps
  take_keywords : ListSettings → (List Modifier → Dialogue A) → Dialogue A
  -- reports the kept kinds that a check disallows
  check : ClassCheck → List Modifier → Dialogue A → Dialogue A
  -- takes a part in a context
  take_part : Part → ℕ → (Result Span Span → Dialogue A) → Dialogue A
  take_method : ℕ → (Result MethodFacts Span → Dialogue A) → Dialogue A
  -- whether an index signature starts here
  ask_index : ℕ → (Bool → Dialogue A) → Dialogue A
  -- goes one way or the other
  test : Bool → Dialogue A → Dialogue A → Dialogue A

-- what comes of it: a value, or the fatal rule
abbrev pub outcome : {A : Type 0} → Dialogue A → Scene → Result A Fatal
outcome (done a) s = Ok a
outcome (stop f p) s = Err f
outcome (note rs d) s = outcome d s
outcome (look k) s = outcome (k (head s.tokens)) s
outcome (peek k) s = outcome (k (head (next s.tokens))) s
outcome (last k) s = outcome (k s.last) s
outcome (eat p k l) s = cond (p (head s.tokens).kind.code) (outcome (k (head s.tokens)) (past_one s)) (outcome (l (head s.tokens)) s)
outcome (take_semicolons d) s = outcome d (past (semicolons s.tokens) s)
outcome (take_keywords t k) s = outcome (k (lasts (kept_of t s))) (past (length (kept_of t s)) s)
outcome (check c ms d) s = outcome d s
outcome (take_part p c k) s = outcome (k (part_at p c s).result) (past (part_at p c s).count s)
outcome (take_method c k) s = outcome (k (method_at c s).result) (past (method_at c s).count s)
outcome (ask_index c k) s = outcome (k (index_at c s)) s
outcome (test b d e) s = cond b (outcome d s) (outcome e s)

-- what the reader means afterwards
abbrev pub after : {A : Type 0} → Dialogue A → Scene → Scene
after (done a) s = s
after (stop f p) s = s
after (note rs d) s = after d s
after (look k) s = after (k (head s.tokens)) s
after (peek k) s = after (k (head (next s.tokens))) s
after (last k) s = after (k s.last) s
after (eat p k l) s = cond (p (head s.tokens).kind.code) (after (k (head s.tokens)) (past_one s)) (after (l (head s.tokens)) s)
after (take_semicolons d) s = after d (past (semicolons s.tokens) s)
after (take_keywords t k) s = after (k (lasts (kept_of t s))) (past (length (kept_of t s)) s)
after (check c ms d) s = after d s
after (take_part p c k) s = after (k (part_at p c s).result) (past (part_at p c s).count s)
after (take_method c k) s = after (k (method_at c s).result) (past (method_at c s).count s)
after (ask_index c k) s = after (k (index_at c s)) s
after (test b d e) s = cond b (after d s) (after e s)

-- the reports that are gained, in order
abbrev pub gains : {A : Type 0} → Dialogue A → Scene → List Report
gains (done a) s = []
gains (stop f p) s = at_place (fatal_number f) p ∷ []
gains (note rs d) s = rs ++ gains d s
gains (look k) s = gains (k (head s.tokens)) s
gains (peek k) s = gains (k (head (next s.tokens))) s
gains (last k) s = gains (k s.last) s
gains (eat p k l) s = cond (p (head s.tokens).kind.code) (gains (k (head s.tokens)) (past_one s)) (gains (l (head s.tokens)) s)
gains (take_semicolons d) s = gains d (past (semicolons s.tokens) s)
gains (take_keywords t k) s = order_reports [] (kept_of t s) ++ gains (k (lasts (kept_of t s))) (past (length (kept_of t s)) s)
gains (check c ms d) s = check_reports c ms ++ gains d s
gains (take_part p c k) s = gains (k (part_at p c s).result) (past (part_at p c s).count s)
gains (take_method c k) s = gains (k (method_at c s).result) (past (method_at c s).count s)
gains (ask_index c k) s = gains (k (index_at c s)) s
gains (test b d e) s = cond b (gains d s) (gains e s)

-- one dialogue, then another
abbrev pub then : {A B : Type 0} → Dialogue A → (A → Dialogue B) → Dialogue B
then (done a) f = f a
then (stop g p) f = stop g p
then (note rs d) f = note rs (then d f)
then (look k) f = look (λ t. then (k t) f)
then (peek k) f = peek (λ t. then (k t) f)
then (last k) f = last (λ e. then (k e) f)
then (eat p k l) f = eat p (λ t. then (k t) f) (λ t. then (l t) f)
then (take_semicolons d) f = take_semicolons (then d f)
then (take_keywords t k) f = take_keywords t (λ ms. then (k ms) f)
then (check c ms d) f = check c ms (then d f)
then (take_part p c k) f = take_part p c (λ a. then (k a) f)
then (take_method c k) f = take_method c (λ a. then (k a) f)
then (ask_index c k) f = ask_index c (λ b. then (k b) f)
then (test b d e) f = test b (then d f) (then e f)
