use Rattle.std.proofs.Common.{◌≡◌, true, false, is_some, ap, ◌∙◌}
use Rattle.gate.proofs.Judging.{as_refused, means_lexed, read, scene_of_lem, unread}
use Rattle.gate.specs.Verdicts.{tokens_of}
use Rattle.refusal.proofs.Numbered.{some_number}
use Rattle.refusal.specs.Questions.{first_no}
use Rattle.text.specs.Lexed.{lexed, text_questions}
use Rattle.text.specs.Means.{text_tokens}
use Rattle.trivia.specs.Kept.{without_skips}
use Rattle.trivia.specs.Means.{trivia_tokens}
use Rattle.gate.proofs.judge.Goals as goal

pub returns-then-is_some : goal.returns-then-is_some
returns-then-is_some c =
    let n = some_number c.new-refused.result.refused in
    let e = c.new-refused.ensures.refused in
    let f = c.if-is_some.ensures in
    let z : is_some (first_no (text_questions c.args.text.now)) ≡ true = cc in
    unread c.args.text.now _ c.none.ensures c.new-session.ensures c.new-refused.ensures.refused z (c.standing.ensures.told _)

pub returns : goal.returns
returns c =
    let bs = c.args.text.now in
    let opened = c.new-refused in
    let n = some_number opened.result.refused in
    let e = opened.ensures.refused in
    let f = c.if-is_some.ensures in
    let z : is_some (first_no (text_questions bs)) ≡ false = cc in
    let below : text_tokens opened.result.reader ≡ lexed bs = opened.ensures.tokens ∙ means_lexed bs z in
    let above : trivia_tokens text_tokens c.new-script.result.below ≡ tokens_of bs =
    c.new-script.ensures.tokens ∙ (c.new-tokens.ensures.sound opened.ensures.sound).0 ∙ ap (without_skips false) below in
    read bs _ c.none.ensures c.new-session.ensures (as_refused c.read_body.result c.err-refusal.ensures.value) (scene_of_lem bs above c.new-script.ensures.last) z c.read_body.ensures (c.standing-2.ensures.told _)
