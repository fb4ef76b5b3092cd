-- A list over lent memory: what it holds and misses, and what noting elements in it makes of that.
use Rattle.std.specs.Prelude.{◌≡◌, ℕ, ◌+◌, min, cond, List as Row, [], ◌∷◌, ◌++◌, length, take, nat_lt}
use Rattle.list.specs.declared.list.List.{List}

-- the memory that was lent
abbrev pub memory : {T : Type 0} → List T → Row T
memory l = l.items.now

-- whose memory it is
abbrev pub lender : {T : Type 0} → List T → ℕ
lender l = l.items.ghost_name

-- how many elements it can hold
abbrev pub room : {T : Type 0} → List T → ℕ
room l = length (memory l)

-- the elements that it holds, in the order in which they came
abbrev pub listed : {T : Type 0} → List T → Row T
listed l = take l.len (memory l)

-- what is held, and how many were missed
pub record Contents (T : Type 0) : Type 0 where
  pub holds : Row T
  pub misses : ℕ

abbrev pub contents : {T : Type 0} → List T → Contents T
contents l = record { holds = listed l; misses = l.missed }

-- one element noted, where n is the room: at the end, or one more missed, up to 65,535
abbrev pub note_one : {T : Type 0} → ℕ → Contents T → T → Contents T
note_one n k x =
    cond (nat_lt (length k.holds) n) (record { holds = k.holds ++ (x ∷ []); misses = k.misses })
    (record { holds = k.holds; misses = min (k.misses + 1) 65535 })

-- elements noted one after the other
abbrev pub note_all : {T : Type 0} → ℕ → Contents T → Row T → Contents T
note_all n k [] = k
note_all n k (x ∷ xs) = note_all n (note_one n k x) xs

-- that elements were noted in a list
pub record Noted {T : Type 0} (l l' : List T) (xs : Row T) : Type 0 where
  pub after : contents l' ≡ note_all (room l) (contents l) xs
  pub places : room l' ≡ room l
  pub lent : lender l' ≡ lender l
