-- A table's questions by the tests of its tokens, and what is read of a table by what they answer.
use Rattle.std.proofs.Common.{◌≡◌, ℕ, ◌+◌, Bool, true, false, cond, ◌&&◌, eqb, leb, List, [], ◌∷◌, length, drop, is_some, Option, sym, refl, ap, ◌∙◌, arith}
use Rattle.std.specs.List.{list_all, position_or_len}
use Rattle.std.proofs.lemmas.List.{drop_all}
use Rattle.std.proofs.lemmas.Bool.Decides.{nat_tests}
use Rattle.reader.proofs.Closing.{ended_closed, sound_ended}
use Rattle.reader.specs.Sound.{all_known, all_placed, known, sound}
use Rattle.refusal.specs.declared.Refusal.{Refusal}
use Rattle.refusal.proofs.Numbered.{some_number}
use Rattle.refusal.specs.Questions.{first_no, number_of}
use Rattle.table.specs.Tables.{table_meaning, table_questions}
use Rattle.reader.specs.Tokens.{closed, ended, eof0, is_eof}
use Rattle.token.specs.declared.Token.{Token}

pub all_known-by : (ts : List Token) → list_all known ts ≡ all_known ts
all_known-by [] = refl
all_known-by (t ∷ ts) = ap (λ b. known t && b) (all_known-by ts)

pub ended-by : (ts : List Token) → eqb (position_or_len is_eof ts + 1) (length ts) ≡ ended ts
ended-by [] = refl
ended-by (t ∷ []) = grind (arith, nat_tests)
ended-by (t ∷ (u ∷ us)) = let ih = ended-by (u ∷ us) in grind (arith, nat_tests)

-- a table that is not refused is sound
not_refused : (ts : List Token) → is_some (first_no (table_questions ts)) ≡ false → sound ts ≡ true
not_refused ts h = by (leb 1 (length ts) && leb (length ts) 65536) (all_known ts) (ended ts) (all_placed ts) h
  where
    by : (a b c d : Bool) → is_some (first_no ((1, a) ∷ ((2, b) ∷ ((3, c) ∷ ((4, d) ∷ []))))) ≡ false → (b && c && d) ≡ true
    by true true true true e = refl
    by true true true false e = grind arith
    by true true false d e = grind arith
    by true false c d e = grind arith
    by false b c d e = grind arith

-- a reader at the start of a table that is not refused, or at the end of any other
pub opened_tokens : (ts : List Token) (r : Option Refusal) (i : ℕ) → number_of r ≡ first_no (table_questions ts) → i ≡ cond (is_some r) (length ts) 0 → closed (drop i ts) ≡ table_meaning ts
opened_tokens ts r i e f =
    let no : closed (drop (length ts) ts) ≡ eof0 ∷ [] = ap closed (drop_all (length ts) ts (omega arith)) in
    let yes-case : is_some (first_no (table_questions ts)) ≡ false → closed ts ≡ ts = λ z. ended_closed ts (sound_ended ts (not_refused ts z)) in
    let g : is_some r ≡ is_some (first_no (table_questions ts)) = sym (some_number r) ∙ ap is_some e in
    grind (arith, nat_tests)

pub meaning_sound : (ts : List Token) → sound (table_meaning ts) ≡ true
meaning_sound ts = by (is_some (first_no (table_questions ts))) refl
  where
    by : (b : Bool) → is_some (first_no (table_questions ts)) ≡ b → sound (cond b (eof0 ∷ []) ts) ≡ true
    by true e = refl
    by false e = not_refused ts e
