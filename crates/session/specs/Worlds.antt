-- What a call on a session does.
use Rattle.std.specs.Prelude.{◌≡◌, ℕ, Bool, true, false, cond, List, [], ◌∷◌, length, is_some, Some, None, Ok, Err, Option, Result, ◌==◌}
use Rattle.class.specs.Members.{member_d}
use Rattle.dialogue.specs.Dialogues.{Dialogue, after, gains, outcome}
use Rattle.dialogue.specs.Fatal.{fatal_number}
use Rattle.dialogue.specs.declared.Fatal.{Fatal}
use Rattle.kinds.specs.declared.context.Context.{Context}
use Rattle.list.specs.declared.list.List.{List as Held}
use Rattle.reader.specs.Scenes.{Scene, past_one, scene}
use Rattle.reader.specs.Tokens.{head}
use Rattle.reader.specs.declared.TokenReader.{Ghosts}
use Rattle.records.specs.Told.{Told}
use Rattle.records.specs.declared.record.MemberRecord.{MemberRecord}
use Rattle.refusal.specs.Numbers.{refusal_number}
use Rattle.refusal.specs.Questions.{Question, first_no}
use Rattle.refusal.specs.declared.Refusal.{Refusal}
use Rattle.reports.specs.declared.Report.{Report}
use Rattle.token.specs.Kinds.{k_lcurly, k_rcurly}
use Rattle.session.specs.Boards.{Board, has_place, member_board, note_in, report_board}
use Rattle.session.specs.declared.state.Call.{Call}
use Rattle.session.specs.declared.state.Call.TheVariants.{Open as CallOpen, Member as CallMember, Close as CallClose, Standing as CallStanding}
use Rattle.session.specs.declared.state.Language.{Language}
use Rattle.session.specs.declared.state.Language.TheVariants.{TypeScript, JavaScript}
use Rattle.session.specs.declared.state.Reading.{Reading}
use Rattle.session.specs.declared.state.Reading.TheVariants.{Member, NoMore, Fault}
use Rattle.session.specs.declared.state.Session.{Session}
use Rattle.session.specs.declared.state.Standing.{Standing}
use Rattle.session.specs.declared.state.State.{State}
use Rattle.session.specs.declared.state.State.TheVariants.{Fresh, Open, Closed, Faulted}

-- the states by number
abbrev pub state_number : State → ℕ
state_number Fresh = 0
state_number Open = 1
state_number Closed = 2
state_number (Faulted f) = 3

-- the fatal rule that a state is after, if it is after one
abbrev pub fatal_of : State → Option Fatal
fatal_of Fresh = None
fatal_of Open = None
fatal_of Closed = None
fatal_of (Faulted f) = Some f

abbrev pub is_type_script : Language → Bool
is_type_script TypeScript = true
is_type_script JavaScript = false

-- the number of a fatal rule, if there is one
abbrev pub rule_of : Option Fatal → Option ℕ
rule_of None = None
rule_of (Some f) = Some (fatal_number f)

-- a session that was just made, with its settings
abbrev pub fresh_session : Language → Context → Session
fresh_session l c = record { state = Fresh; language = l; context = c }

-- the session, what the reader means, and the two lists
pub record World : Type 0 where
  pub session : Session
  pub scene : Scene
  pub reports : Board Report
  pub members : Board Told

abbrev pub world_of : Session → Scene → Board Report → Board Told → World
world_of s v r m = record { session = s; scene = v; reports = r; members = m }

-- the world of a session over a reader, with its two lists
abbrev pub world : {X : Type 0} → Ghosts X → Session → X → Held Report → Held MemberRecord → World
world g s x r m = world_of s (scene g x) (report_board r) (member_board m)

abbrev pub is_in : State → World → Bool
is_in s w = state_number w.session.state == state_number s

-- whether the current token is of a kind
abbrev pub is_at : ℕ → World → Bool
is_at k w = (head w.scene.tokens).kind.code == k

-- open, 7: is the session fresh? 8: is it at `{`? member, 9: is the session open? 10: has the member list a free place?
-- close, 9: is the session open? 11: is it at `}`? standing is never refused
abbrev pub questions : Call → World → List Question
questions CallOpen w = (7, is_in Fresh w) ∷ ((8, is_at k_lcurly w) ∷ [])
questions CallMember w = (9, is_in Open w) ∷ ((10, has_place w.members) ∷ [])
questions CallClose w = (9, is_in Open w) ∷ ((11, is_at k_rcurly w) ∷ [])
questions CallStanding w = []

-- what a call tells: the number of its refusal; that it was done; of a member, that one was read, that there is no more,
-- or the number of the fatal rule; of the standing, the state's number, how many members and reports are kept, how many
-- reports were missed, and the fatal rule
pub data Answer : Type 0 where
  refused : ℕ → Answer
  carried : Answer
  member : Answer
  no_more : Answer
  fault : ℕ → Answer
  stands : ℕ → ℕ → ℕ → ℕ → Option ℕ → Answer

-- the member that stands next
abbrev pub member_next : World → Dialogue (Option Told)
member_next w = member_d (is_type_script w.session.language) w.session.context.bits

-- what comes of it, by what the member's dialogue comes to
abbrev pub reading_of : Result (Option Told) Fatal → Answer
reading_of (Ok None) = no_more
reading_of (Ok (Some t)) = member
reading_of (Err f) = fault (fatal_number f)

abbrev pub record_in : Result (Option Told) Fatal → Board Told → Board Told
record_in (Ok None) b = b
record_in (Ok (Some t)) b = note_in b (t ∷ [])
record_in (Err f) b = b

-- the session in another state
abbrev pub in_state : State → Session → Session
in_state z s = record { state = z; language = s.language; context = s.context }

abbrev pub faulted_by : Result (Option Told) Fatal → Session → Session
faulted_by (Ok t) s = s
faulted_by (Err f) s = in_state (Faulted f) s

-- the session in another state, and the brace taken
abbrev pub braced : State → World → World
braced z w = world_of (in_state z w.session) (past_one w.scene) w.reports w.members

-- a member read: its tokens taken, its reports noted, and its record, or the session faulted
abbrev pub member_read : World → World
member_read w =
    world_of (faulted_by (outcome (member_next w) w.scene) w.session) (after (member_next w) w.scene)
    (note_in w.reports (gains (member_next w) w.scene))
    (record_in (outcome (member_next w) w.scene) w.members)

-- a call that is not refused
abbrev pub carried_out : Call → World → World
carried_out CallOpen w = braced Open w
carried_out CallMember w = member_read w
carried_out CallClose w = braced Closed w
carried_out CallStanding w = w

-- and what it tells
abbrev pub tells : Call → World → Answer
tells CallOpen w = carried
tells CallMember w = reading_of (outcome (member_next w) w.scene)
tells CallClose w = carried
tells CallStanding w =
    stands (state_number w.session.state) (length w.members.contents.holds) (length w.reports.contents.holds)
    w.reports.contents.misses
    (rule_of (fatal_of w.session.state))

abbrev pub refused_or : Option ℕ → Answer → Answer
refused_or None a = a
refused_or (Some n) a = refused n

-- a call is refused by the first question answered no, and then the world stays as it was; else it is carried out
pub record Did (c : Call) (told : Answer) (w w' : World) : Type 0 where
  pub says : told ≡ refused_or (first_no (questions c w)) (tells c w)
  pub after : w' ≡ cond (is_some (first_no (questions c w))) w (carried_out c w)

-- what the calls answer, in these words
abbrev pub done_says : Result Unit Refusal → Answer
done_says (Ok u) = carried
done_says (Err r) = refused (refusal_number r)

abbrev pub kept_says : Reading → Answer
kept_says Member = member
kept_says NoMore = no_more
kept_says (Fault f) = fault (fatal_number f)

abbrev pub reading_says : Result Reading Refusal → Answer
reading_says (Ok x) = kept_says x
reading_says (Err r) = refused (refusal_number r)

abbrev pub standing_says : Standing → Answer
standing_says s = stands (state_number s.state) s.members s.kept s.missed (rule_of (fatal_of s.state))

-- an answer that refuses unless a question is answered yes
abbrev pub unless : Bool → Refusal → Result Unit Refusal
unless true r = Ok tt
unless false r = Err r
