-- The keywords that a list keeps, and what their order earns.
use Rattle.std.specs.Prelude.{◌≡◌, Bool, cond, not, ◌&&◌, List, [], ◌∷◌, ◌++◌, length, Some, None, Option, ◌==◌}
use Rattle.kinds.specs.declared.modifier_kind.ModifierKind.{ModifierKind}
use Rattle.kinds.specs.declared.modifier_kind.ModifierKind.TheVariants.{Const, Static}
use Rattle.list.specs.Lists.{Noted}
use Rattle.list.specs.declared.list.List.{List as Held}
pub use Rattle.modifiers.specs.Entries.{place_of}
use Rattle.modifiers.specs.Entries.{added, keeps, may_follow, same_kind, word_at}
use Rattle.modifiers.specs.Lists.{entries}
use Rattle.modifiers.specs.declared.modifier.Modifier.{Modifier}
use Rattle.modifiers.specs.declared.modifiers.Modifiers.{Modifiers}
use Rattle.reader.specs.Scenes.{Scene, past}
use Rattle.reader.specs.Tokens.{head}
use Rattle.reports.specs.Reports.{keyword_report}
use Rattle.reports.specs.declared.Report.{Report}
use Rattle.rules.specs.Rules.{rule_number}
use Rattle.token.specs.Kinds.{can_follow_modifier, k_lcurly, modifier_of}
use Rattle.token.specs.declared.Token.{Token}
use Rattle.verdicts.specs.Orders.{order_of}
use Rattle.verdicts.specs.declared.order.OrderVerdict.{OrderVerdict}
use Rattle.keywords.specs.declared.ListSettings.{ListSettings}

-- whether a token can follow a modifier keyword, and stands on its line
abbrev pub follows_on_line : Token → Bool
follows_on_line n = can_follow_modifier n.kind.code && not n.line_break

-- whether a keyword is a modifier before the token n: `const` where it is allowed and n follows on its line; `static` if
-- n can follow, no static is kept and, where static blocks end the list, n is not `{`; any other if n follows on its line
abbrev pub eligible : ListSettings → Bool → ModifierKind → Token → Bool
eligible s static_kept k n =
    cond (same_kind k Const) (s.const_allowed && follows_on_line n)
    (cond (same_kind k Static) (can_follow_modifier n.kind.code && not static_kept && not (s.static_block_ends && n.kind.code == k_lcurly))
    (follows_on_line n))

-- a keyword that is a modifier after the kept ones; of sound tokens it always begins after them
abbrev pub keyword_if : ListSettings → List Modifier → Option ModifierKind → Token → Token → Option Modifier
keyword_if s ms None t n = None
keyword_if s ms (Some k) t n =
    cond (eligible s (keeps Static ms) k n) (cond (may_follow ms (word_at k t.start)) (Some (word_at k t.start)) None) None

-- the keyword that a token is there, if any
abbrev pub keyword_here : ListSettings → List Modifier → Token → Token → Option Modifier
keyword_here s ms t n = keyword_if s ms (modifier_of t.kind.code) t n

-- the keywords from a place on, after those that are kept already
abbrev pub kept_from : ListSettings → List Modifier → List Token → List Modifier
kept_from s ms [] = []
kept_from s ms (t ∷ ts) = elim (keyword_here s ms t (head ts)) [ None ↦ [] | Some m ↦ m ∷ kept_from s (added ms m) ts ]

-- the keywords that a list keeps, in the order in which they stand
abbrev pub kept_of : ListSettings → Scene → List Modifier
kept_of s v = kept_from s [] v.tokens

-- each kind once, at its last place
abbrev pub lasts_from : List Modifier → List Modifier → List Modifier
lasts_from ms [] = ms
lasts_from ms (k ∷ ks) = lasts_from (added ms k) ks

abbrev pub lasts : List Modifier → List Modifier
lasts ks = lasts_from [] ks

-- the report that an order verdict makes of a keyword, if there is one
abbrev pub reports_of : Option OrderVerdict → Modifier → List Report
reports_of None m = []
reports_of (Some v) m = keyword_report (rule_number v.rule) m.kind (place_of m) v.other None ∷ []

-- what a keyword earns after the kept ones
abbrev pub order_report : List Modifier → Modifier → List Report
order_report ms m = reports_of (order_of (λ k. keeps k ms) m.kind) m

-- what keywords earn after those that are kept already
abbrev pub order_reports : List Modifier → List Modifier → List Report
order_reports ms [] = []
order_reports ms (k ∷ ks) = order_report ms k ++ order_reports (added ms k) ks

-- that a list was read: what it keeps, how the reader stands afterwards, and what was reported
pub record KeywordsRead (s : ListSettings) (v v' : Scene) (m : Modifiers) (l l' : Held Report) : Type 0 where
  pub kept : entries m ≡ lasts (kept_of s v)
  pub after : v' ≡ past (length (kept_of s v)) v
  pub reports : Noted l l' (order_reports [] (kept_of s v))
