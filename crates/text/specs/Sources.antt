-- What a text is read as: itself, unless a question refuses it.
use Rattle.std.specs.Prelude.{◌≡◌, ℕ, List, Result, IfOk}
use Rattle.std.specs.Borrow.{Bor}
use Rattle.refusal.specs.Questions.{first_no, refused_by}
use Rattle.refusal.specs.declared.Refusal.{Refusal}
use Rattle.text.specs.Lexed.{text_questions}
use Rattle.text.specs.declared.source.Source.{Source}

abbrev pub Opens : Bor (List ℕ) → Result Source Refusal → Type 0
Opens text r = (refused_by r ≡ first_no (text_questions text.now)) × IfOk r (λ s. s.bytes.now ≡ text.now)
