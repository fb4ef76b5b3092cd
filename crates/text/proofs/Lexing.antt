-- The tokens of a text, cut off one by one.
use Rattle.std.proofs.Common.{◌≡◌, ℕ, zero, suc, ◌+◌, ◌-◌, ◌<◌, ◌≤◌, true, false, cond, ltb, List, [], ◌∷◌, length, drop, sym, refl, ap, ◌∙◌, add-zero, arith, lt-ltb, eq-eqb}
use Rattle.std.proofs.lemmas.List.{drop-drop}
use Rattle.std.proofs.lemmas.Bool.Decides.{nat_tests}
use Rattle.lexeme.proofs.Fitting.{fitting, at_end}
use Rattle.lexeme.specs.Format.{lexeme_of, plain, token_of}
use Rattle.lexeme.specs.declared.Lexeme.{Lexeme}
use Rattle.reader.proofs.Closing.{sound_cons}
use Rattle.reader.specs.Sound.{sized, sound, spelled}
use Rattle.reader.specs.Tokens.{ended, head, is_eof, next}
use Rattle.token.specs.Kinds.{k_eof, modifier_of}
use Rattle.token.specs.declared.Token.{Token}
use Rattle.text.specs.Lexed.{token_at, tokens_past, tokens_from, lexed, CutLaw, EndLaw, SizeLaw}
use Rattle.text.specs.Means.{held_tokens}

-- past the bytes of the token before
pass : (k p : ℕ) (bs : List ℕ) → k ≤ length bs → tokens_past k p bs ≡ tokens_from (p + k) (drop k bs)
pass zero p bs h = rw (add-zero p)
pass (suc k) p [] h = absurd (omega arith)
pass (suc k) p (b ∷ bs) h = let e : (p + 1) + k ≡ p + suc k = omega arith in pass k (p + 1) bs (omega arith) ∙ ap (λ n. tokens_from n (drop k bs)) e

-- Eof at the end, and none before
eof_at_end : (p : ℕ) → is_eof (token_at p []) ≡ true
eof_at_end p = rw at_end

more_before : (p b : ℕ) (bs : List ℕ) → is_eof (token_at p (b ∷ bs)) ≡ false
more_before p b bs = (fitting (b ∷ bs) (omega arith)).more

-- the first token, and then those after it
cut : (p : ℕ) (bs : List ℕ) → tokens_from p bs ≡ cond (is_eof (token_at p bs)) (token_at p bs ∷ []) (token_at p bs ∷ tokens_from (p + (lexeme_of bs).size) (drop (lexeme_of bs).size bs))
cut p [] = rw (eof_at_end p)
cut p (b ∷ bs) =
    let f = fitting (b ∷ bs) (omega arith) in
    let n : ℕ = (lexeme_of (b ∷ bs)).size in
    let some : 0 < n = f.some in
    let within : n ≤ length bs + 1 = omega (arith, f.within) in
    let q : (p + 1) + (n - 1) ≡ p + n = omega arith in
    let one : 1 + (n - 1) ≡ n = omega arith in
    let d : drop (n - 1) bs ≡ drop n (b ∷ bs) = drop-drop (n - 1) 1 (b ∷ bs) ∙ ap (λ m. drop m (b ∷ bs)) one in
    let t : tokens_past (n - 1) (p + 1) bs ≡ tokens_from (p + n) (drop n (b ∷ bs)) = pass (n - 1) (p + 1) bs (omega arith) ∙ (λ i. tokens_from (q i) (d i)) in
    rw (more_before p b bs, t)

pub cut_law : CutLaw
cut_law p [] h = absurd (omega arith)
cut_law p (b ∷ bs) h = cut p (b ∷ bs) ∙ rw (more_before p b bs)

pub end_law : EndLaw
end_law p = rw at_end

pub size_law : SizeLaw
size_law bs h = let f = fitting bs h in (f.some, f.within)

-- a reader that holds the token at p gives the tokens from p on
pub held_at : (p : ℕ) (bs : List ℕ) → held_tokens (token_at p (drop p bs)) bs ≡ tokens_from p (drop p bs)
held_at p bs =
    let n : ℕ = (lexeme_of (drop p bs)).size in
    let t : Token = token_at p (drop p bs) in
    ap (λ l. cond (is_eof t) (t ∷ []) (t ∷ tokens_from (p + n) l)) (sym (drop-drop n p bs)) ∙ sym (cut p (drop p bs))

-- and those from its end on once it is taken
pub held_next : (t : Token) (bs : List ℕ) → is_eof t ≡ false → tokens_from t.end (drop t.end bs) ≡ next (held_tokens t bs)
held_next t bs e = rw e (rw e)

pub held_head : (t : Token) (bs : List ℕ) → t ≡ head (held_tokens t bs)
held_head t bs = elim (is_eof t) as (λ b. t ≡ head (cond b (t ∷ []) (t ∷ tokens_from t.end (drop t.end bs)))) [ true ↦ refl | false ↦ refl ]

ended_past : (k p : ℕ) (bs : List ℕ) → ended (tokens_past k p bs) ≡ true
ended_past k p [] = rw (eof_at_end p)
ended_past zero p (b ∷ bs) = rw (more_before p b bs) (ended_past ((lexeme_of (b ∷ bs)).size - 1) (p + 1) bs)
ended_past (suc k) p (b ∷ bs) = ended_past k (p + 1) bs

pub held_ended : (t : Token) (bs : List ℕ) → ended (held_tokens t bs) ≡ true
held_ended t bs = let h = ended_past 0 t.end (drop t.end bs) in grind (arith, nat_tests)

-- the first token of a text that is not empty is as long as its sort must be
first_sized : (p b : ℕ) (bs : List ℕ) → sized (token_at p (b ∷ bs)) ≡ true
first_sized p b bs =
    let f = fitting (b ∷ bs) (omega arith) in
    let l : Lexeme = lexeme_of (b ∷ bs) in
    let some : 0 < l.size = f.some in
    let d : ltb p (p + l.size) ≡ true = lt-ltb p (p + l.size) (omega arith) in
    let s : spelled (modifier_of l.kind.code) (token_of p l) ≡ true = f.long p in
    rw (more_before p b bs, d, s)

eof_sound : (p : ℕ) → sound (token_of p (plain k_eof 0) ∷ []) ≡ true
eof_sound p = rw (eq-eqb p (p + 0) (omega arith))

sound_past : (k p : ℕ) (bs : List ℕ) → k ≤ length bs → (sound (tokens_past k p bs) ≡ true) × ((head (tokens_past k p bs)).start ≡ p + k)
sound_past k p [] h = (rw at_end (eof_sound p), omega arith)
sound_past zero p (b ∷ bs) h =
    let f = fitting (b ∷ bs) (omega arith) in
    let n : ℕ = (lexeme_of (b ∷ bs)).size in
    let some : 0 < n = f.some in
    let within : n ≤ length bs + 1 = omega (arith, f.within) in
    let r = sound_past (n - 1) (p + 1) bs (omega arith) in
    let e : p + n ≤ (head (tokens_past (n - 1) (p + 1) bs)).start = omega (arith, r.1) in
    (sound_cons (token_at p (b ∷ bs)) (tokens_past (n - 1) (p + 1) bs) (f.knows p) (more_before p b bs) (first_sized p b bs) e r.0, omega arith)
sound_past (suc k) p (b ∷ bs) h = let r = sound_past k (p + 1) bs (omega arith) in (r.0, omega arith)

pub lexed_sound : (bs : List ℕ) → sound (lexed bs) ≡ true
lexed_sound bs = (sound_past 0 0 bs (omega arith)).0
