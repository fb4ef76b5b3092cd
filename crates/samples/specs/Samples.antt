-- Keyword lists written out, where `const` is allowed and `static {` ends a list.
use Rattle.std.specs.Prelude.{false, true, List, [], ◌∷◌, ◌≡◌, ℕ, codes}
use Prim.Native.String.{String}
use Rattle.keywords.specs.Run.{kept_from, lasts, order_reports}
use Rattle.keywords.specs.declared.ListSettings.{ListSettings}
use Rattle.kinds.specs.Modifiers.{modifier_number}
use Rattle.kinds.specs.declared.modifier_kind.ModifierKind.{ModifierKind}
use Rattle.kinds.specs.declared.modifier_kind.ModifierKind.TheVariants.{Declare, Private, Public, Static, Readonly, Abstract, Override}
use Rattle.modifiers.specs.Entries.{word_at}
use Rattle.modifiers.specs.declared.modifier.Modifier.{Modifier}
use Rattle.reports.specs.declared.Report.{Report}
use Rattle.text.specs.Lexed.{lexed}
use Rattle.token.specs.declared.Token.{Token}
use Rattle.trivia.specs.Kept.{without_skips}

abbrev pub settings : ListSettings
settings = record { const_allowed = true; static_block_ends = true }

-- the tokens of a text, without what stands between them
abbrev pub tokens_of : String → List Token
tokens_of text = without_skips false (lexed (codes text))

-- a rule of a keyword from one place to another, by the numbers of the keyword and of the one that is named (255 for none)
abbrev pub reported : ℕ → ModifierKind → ℕ → ℕ → ℕ → Report
reported rule k start end other =
    record {
      rule = rule;
      start = start;
      end = end;
      kind = modifier_number k;
      other = other;
      allowed = 65535;
    }

-- the keywords that a text keeps, as they stand; each kind once; and what their order earns
pub record Sample (text : String) (kept once : List Modifier) (rs : List Report) : Type 0 where
  pub keeps : kept_from settings [] (tokens_of text) ≡ kept
  pub lists : lasts kept ≡ once
  pub earns : order_reports [] kept ≡ rs

-- no keyword, and a static block
abbrev pub NoKeyword : Type 0
NoKeyword = Sample "x" [] [] []

abbrev pub StaticBlock : Type 0
StaticBlock = Sample "static {" [] [] []

-- one report for each keyword that is misplaced, and not for the first alone
abbrev pub TwoReports : Type 0
TwoReports =
    Sample "readonly static abstract x"
    (word_at Readonly 0 ∷ word_at Static 9 ∷ word_at Abstract 16 ∷ [])
    (word_at Readonly 0 ∷ word_at Static 9 ∷ word_at Abstract 16 ∷ [])
    (reported 5 Static 9 15 (modifier_number Readonly) ∷ reported 3 Abstract 16 24 (modifier_number Static) ∷ [])

-- the lowest kind is named, and not the nearest
abbrev pub LowestNamed : Type 0
LowestNamed =
    Sample "readonly abstract private x"
    (word_at Readonly 0 ∷ word_at Abstract 9 ∷ word_at Private 18 ∷ [])
    (word_at Readonly 0 ∷ word_at Abstract 9 ∷ word_at Private 18 ∷ [])
    (reported 5 Private 18 25 (modifier_number Readonly) ∷ [])

-- a repeated kind stands once, at its last place
abbrev pub Repeated : Type 0
Repeated =
    Sample "readonly declare readonly x"
    (word_at Readonly 0 ∷ word_at Declare 9 ∷ word_at Readonly 17 ∷ [])
    (word_at Declare 9 ∷ word_at Readonly 17 ∷ [])
    (reported 2 Readonly 17 25 255 ∷ [])

-- `declare` and `override`, in the one order and in the other
abbrev pub OverrideFirst : Type 0
OverrideFirst =
    Sample "override declare x"
    (word_at Override 0 ∷ word_at Declare 9 ∷ [])
    (word_at Override 0 ∷ word_at Declare 9 ∷ [])
    (reported 4 Declare 9 16 (modifier_number Override) ∷ [])

abbrev pub DeclareFirst : Type 0
DeclareFirst =
    Sample "declare override x"
    (word_at Declare 0 ∷ word_at Override 8 ∷ [])
    (word_at Declare 0 ∷ word_at Override 8 ∷ [])
    (reported 3 Override 8 16 (modifier_number Declare) ∷ [])

-- a second `static` is the member's name
abbrev pub StaticTwice : Type 0
StaticTwice = Sample "static static x" (word_at Static 0 ∷ []) (word_at Static 0 ∷ []) []

abbrev pub TwoAccessibilities : Type 0
TwoAccessibilities =
    Sample "public private x"
    (word_at Public 0 ∷ word_at Private 7 ∷ [])
    (word_at Public 0 ∷ word_at Private 7 ∷ [])
    (reported 1 Private 7 14 255 ∷ [])

pub record SamplesStand : Type 0 where
  pub none : NoKeyword
  pub block : StaticBlock
  pub two : TwoReports
  pub lowest : LowestNamed
  pub repeated : Repeated
  pub override_first : OverrideFirst
  pub declare_first : DeclareFirst
  pub twice : StaticTwice
  pub accessibilities : TwoAccessibilities
