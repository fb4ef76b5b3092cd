-- Lists of keywords: each kind once, at its last place.
use Rattle.std.specs.Prelude.{ℕ, ◌+◌, ◌^◌, Bool, true, false, cond, not, ◌&&◌, ◌||◌, List, [], ◌∷◌, ◌++◌, map, length, Some, None, filter, Option, ◌==◌, nat_lt, slice_index}
use Rattle.std.specs.List.{list_all}
pub use Rattle.kinds.specs.Modifiers.{every_kind, kind_at, same_kind}
use Rattle.kinds.specs.Modifiers.{word_of}
use Rattle.kinds.specs.declared.modifier_kind.ModifierKind.{ModifierKind}
use Rattle.kinds.specs.declared.modifier_kind.ModifierKind.TheVariants.{Private, Protected, Public}
use Rattle.modifiers.specs.declared.modifier.Modifier.{Modifier}
use Rattle.modifiers.specs.declared.modifier.Placed.{Placed}
use Rattle.parts.specs.declared.Span.{Span}

-- a keyword of a kind, at its start
abbrev pub word_at : ModifierKind → ℕ → Modifier
word_at kind start = record { start = start; kind = kind }

-- whether a kind is kept
abbrev pub keeps : ModifierKind → List Modifier → Bool
keeps k [] = false
keeps k (m ∷ ms) = same_kind m.kind k || keeps k ms

-- the entries of other kinds
abbrev pub without : ModifierKind → List Modifier → List Modifier
without k = filter (λ m. not (same_kind m.kind k))

-- a keyword more: an earlier one of its kind goes, and it stands at the end
abbrev pub added : List Modifier → Modifier → List Modifier
added ms m = without m.kind ms ++ (m ∷ [])

-- where a keyword ends, and whether that is a number of 32 bits
abbrev pub end_of : Modifier → ℕ
end_of m = m.start + length (word_of m.kind)

abbrev pub fits : Modifier → Bool
fits m = nat_lt (end_of m) (2 ^ 32)

-- whether a start is above those of all entries
abbrev pub above : ℕ → List Modifier → Bool
above start = list_all (λ m. nat_lt m.start start)

-- whether a keyword can stand after the kept ones
abbrev pub may_follow : List Modifier → Modifier → Bool
may_follow ms m = above m.start ms && fits m

-- each kind once
abbrev pub apart : List Modifier → Bool
apart [] = true
apart (m ∷ ms) = not (keeps m.kind ms) && apart ms

-- each start above those before it
abbrev pub ascending : List Modifier → Bool
ascending [] = true
ascending (m ∷ ms) = list_all (λ n. nat_lt m.start n.start) ms && ascending ms

-- the entry of a kind
abbrev pub entry_of : ModifierKind → List Modifier → Option Modifier
entry_of k [] = None
entry_of k (m ∷ ms) = cond (same_kind m.kind k) (Some m) (entry_of k ms)

-- the place of a keyword
abbrev pub place_of : Modifier → Span
place_of m = record { start = m.start; end = end_of m }

-- a keyword with its place
abbrev pub placed : Modifier → Placed
placed m = record { kind = m.kind; place = place_of m }

abbrev pub placed_if : Option Modifier → Option Placed
placed_if None = None
placed_if (Some m) = Some (placed m)

-- the accessibility of a list: public before protected before private
abbrev pub accessibility_of : List Modifier → Option ModifierKind
accessibility_of ms =
    cond (keeps Public ms) (Some Public) (cond (keeps Protected ms) (Some Protected) (cond (keeps Private ms) (Some Private) None))

-- ---- how a list is held
-- the entry of the kind with a number, by the starts of all kinds
abbrev pub entry_at : List ℕ → ℕ → Modifier
entry_at starts n = record { start = slice_index starts n; kind = kind_at n }

-- whether a number is not another
abbrev pub differs : ℕ → ℕ → Bool
differs n x = not (x == n)

-- the entries of the kinds with some numbers
abbrev pub listed : List ℕ → List ℕ → List Modifier
listed starts = map (entry_at starts)
