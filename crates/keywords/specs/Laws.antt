-- What a keyword list comes to: which keywords it keeps, and which of them their order makes a report of.
use Rattle.std.specs.Prelude.{◌≡◌, ℕ, suc, ◌+◌, ◌<◌, Bool, true, List, length, take, Some, None, slice_index_or}
use Rattle.kinds.specs.Modifiers.{modifier_number, word_of}
use Rattle.kinds.specs.declared.modifier_kind.ModifierKind.{ModifierKind}
use Rattle.kinds.specs.declared.modifier_kind.ModifierKind.TheVariants.{Declare, Static}
use Rattle.modifiers.specs.Entries.{keeps, word_at}
use Rattle.modifiers.specs.declared.modifier.Modifier.{Modifier}
use Rattle.reader.specs.Tokens.{ahead, head}
use Rattle.reports.specs.OneEach.{OneEach}
use Rattle.reports.specs.Reports.{kind_or_255, set_or_65535}
use Rattle.reports.specs.declared.Report.{Report}
use Rattle.token.specs.Kinds.{modifier_of}
use Rattle.token.specs.declared.Token.{Token}
use Rattle.verdicts.specs.Orders.{Gets, LowestForbidden}
use Rattle.verdicts.specs.Verdicts.{forbids, verdict_of}
use Rattle.keywords.specs.Run.{eligible}
use Rattle.keywords.specs.declared.ListSettings.{ListSettings}

-- the token at a place, counted from the current one; Eof beyond the last
abbrev pub token_at : List Token → ℕ → Token
token_at ts i = head (ahead i ts)

-- the keyword at a place
abbrev pub keyword_at : List Modifier → ℕ → Modifier
keyword_at kept i = slice_index_or kept i (word_at Declare 0)

abbrev pub kind_at : List Modifier → ℕ → ModifierKind
kind_at kept i = (keyword_at kept i).kind

-- the token at a place is a keyword of this kind, and a modifier after the kept ones
pub record IsModifier (s : ListSettings) (ts : List Token) (kept : List Modifier) (i : ℕ) (k : ModifierKind) : Type 0 where
  pub keyword : modifier_of (token_at ts i).kind.code ≡ Some k
  pub fit : eligible s (keeps Static kept) k (token_at ts (suc i)) ≡ true

-- the longest run of modifiers at the beginning of the tokens: each is one after those before it, and begins where its
-- token does; and the token after them is none
pub record LongestRun (s : ListSettings) (ts : List Token) (kept : List Modifier) : Type 0 where
  pub modifiers : (i : ℕ) → i < length kept → IsModifier s ts (take i kept) i (kind_at kept i)
  pub starts : (i : ℕ) → i < length kept → (keyword_at kept i).start ≡ (token_at ts i).start
  pub ends : (k : ModifierKind) → IsModifier s ts kept (length kept) k → ⊥

-- whether a kind is kept before a place
abbrev pub kept_before : List Modifier → ℕ → ModifierKind → Bool
kept_before kept i k = keeps k (take i kept)

-- a kind that the keyword at this place forbids is kept before it
abbrev pub Misplaced : List Modifier → ℕ → Type 0
Misplaced kept i = (k : ModifierKind) × (kept_before kept i k ≡ true) × (forbids (kind_at kept i) k ≡ true)

-- the report of a misplaced keyword: at its word; rule 1 or 2 where a kind kept before it gives that verdict, and
-- otherwise the verdict at the lowest kind that is kept before it and forbidden there, which is named
pub record Prescribed (kept : List Modifier) (i : ℕ) (r : Report) : Type 0 where
  pub start : r.start ≡ (keyword_at kept i).start
  pub end : r.end ≡ (keyword_at kept i).start + length (word_of (kind_at kept i))
  pub kind : r.kind ≡ modifier_number (kind_at kept i)
  pub allowed : r.allowed ≡ set_or_65535 None
  pub second : Gets 1 (kept_before kept i) (kind_at kept i) → (r.rule ≡ 1) × (r.other ≡ kind_or_255 None)
  pub again : Gets 2 (kept_before kept i) (kind_at kept i) → (r.rule ≡ 2) × (r.other ≡ kind_or_255 None)
  pub lowest : (k : ModifierKind) → LowestForbidden (kept_before kept i) (kind_at kept i) k → (Gets 1 (kept_before kept i) (kind_at kept i) → ⊥) → (Gets 2 (kept_before kept i) (kind_at kept i) → ⊥) → (r.rule ≡ verdict_of (kind_at kept i) k) × (r.other ≡ modifier_number k)

-- one report for each misplaced keyword, in order, and no other
abbrev pub OrderEarned : List Modifier → List Report → Type 0
OrderEarned kept rs = OneEach (Misplaced kept) (Prescribed kept) (length kept) rs
