-- What the two lists of a session are to their user.
use Rattle.std.specs.Prelude.{ℕ, Bool, List, map, length, nat_lt}
use Rattle.list.specs.Lists.{Contents, contents, lender, listed, note_all, room}
use Rattle.list.specs.declared.list.List.{List as Held}
use Rattle.records.specs.Told.{Told, told_by}
use Rattle.records.specs.declared.record.MemberRecord.{MemberRecord}
use Rattle.reports.specs.declared.Report.{Report}

-- whose memory it is, how many elements it can hold, and what it holds and misses
pub record Board (T : Type 0) : Type 0 where
  pub owner : ℕ
  pub places : ℕ
  pub contents : Contents T

-- with elements noted
abbrev pub note_in : {T : Type 0} → Board T → List T → Board T
note_in b xs = record { owner = b.owner; places = b.places; contents = note_all b.places b.contents xs }

-- whether a place is free
abbrev pub has_place : {T : Type 0} → Board T → Bool
has_place b = nat_lt (length b.contents.holds) b.places

abbrev pub report_board : Held Report → Board Report
report_board l = record { owner = lender l; places = room l; contents = contents l }

-- of member records, what they tell
abbrev pub member_board : Held MemberRecord → Board Told
member_board l = record { owner = lender l; places = room l; contents = record { holds = map told_by (listed l); misses = l.missed } }
