-- Several tokens taken: one taking after another, and what it leaves.
use Rattle.std.proofs.Common.{◌≡◌, ℕ, zero, suc, ◌+◌, ◌<◌, ◌≤◌, true, false, List, [], ◌∷◌, length, refl, ap, ◌∙◌, add-zero, arith}
use Rattle.std.proofs.lemmas.Bool.Decides.{nat_tests}
use Rattle.token.specs.declared.Token.{Token}
use Rattle.reader.specs.Scenes.{Scene, past, past_one}
use Rattle.reader.specs.Sound.{sound}
use Rattle.reader.specs.Tokens.{ahead, ended, head, is_eof, last_after, last_end, next}
use Rattle.reader.proofs.Closing.{length_next, next_ended, next_sound}

-- taking k and then m is taking k + m
pub ahead_both : (k m : ℕ) (ts : List Token) → ahead m (ahead k ts) ≡ ahead (k + m) ts
ahead_both zero m ts = let e : m ≡ 0 + m = omega arith in ap (λ j. ahead j ts) e
ahead_both (suc k) m ts =
    let e : suc (k + m) ≡ suc k + m = omega arith in
    ahead_both k m (next ts) ∙ ap (λ j. ahead j ts) e

pub last_after_both : (k m : ℕ) (ts : List Token) (n : ℕ) → last_after m (ahead k ts) (last_after k ts n) ≡ last_after (k + m) ts n
last_after_both zero m ts n = let e : m ≡ 0 + m = omega arith in ap (λ j. last_after j ts n) e
last_after_both (suc k) m ts n =
    let e : suc (k + m) ≡ suc k + m = omega arith in
    last_after_both k m (next ts) (last_end ts n) ∙ ap (λ j. last_after j ts n) e

pub past_both : (k m : ℕ) (s : Scene) → past m (past k s) ≡ past (k + m) s
past_both k m s =
    λ i. record { tokens = ahead_both k m s.tokens i; last = last_after_both k m s.tokens s.last i; answers = s.answers }

-- one token and then k
pub past-past_one : (k : ℕ) (s : Scene) → past k (past_one s) ≡ past (suc k) s
past-past_one k s = refl

pub ended_ahead : (k : ℕ) (ts : List Token) → ended ts ≡ true → ended (ahead k ts) ≡ true
ended_ahead zero ts h = h
ended_ahead (suc k) ts h = ended_ahead k (next ts) (next_ended ts h)

pub sound_ahead : (k : ℕ) (ts : List Token) → sound ts ≡ true → sound (ahead k ts) ≡ true
sound_ahead zero ts h = h
sound_ahead (suc k) ts h = sound_ahead k (next ts) (next_sound ts h)

pub ended_some : (ts : List Token) → ended ts ≡ true → 0 < length ts
ended_some [] h = grind arith
ended_some (t ∷ ts) h = omega arith

-- a token before others is no Eof
pub ended_more : (t u : Token) (us : List Token) → ended (t ∷ (u ∷ us)) ≡ true → is_eof t ≡ false
ended_more t u us h = grind (arith, nat_tests)

pub length_ahead : (k : ℕ) (ts : List Token) → ended ts ≡ true → k < length ts → length (ahead k ts) + k ≡ length ts
length_ahead zero ts h l = add-zero (length ts)
length_ahead (suc k) [] h l = absurd (omega arith)
length_ahead (suc k) (t ∷ []) h l = absurd (omega arith)
length_ahead (suc k) (t ∷ (u ∷ us)) h l =
    let e = ended_more t u us h in
    let n : next (t ∷ (u ∷ us)) ≡ u ∷ us = rw e in
    let r : ended (u ∷ us) ≡ true = rw e at h in
    rw n (omega (arith, length_ahead k (u ∷ us) r (omega arith)))

-- where tokens before Eof can be taken, there is one
pub taken_some : (k : ℕ) (ts : List Token) → ended ts ≡ true → 0 < k → k < length ts → is_eof (head ts) ≡ false
taken_some k [] h s l = grind arith
taken_some k (t ∷ []) h s l = absurd (omega arith)
taken_some k (t ∷ (u ∷ us)) h s l = ended_more t u us h

-- the end of the last of some tokens is not that of one before them
pub last_any : (k : ℕ) (ts : List Token) (m n : ℕ) → 0 < k → is_eof (head ts) ≡ false → last_after k ts m ≡ last_after k ts n
last_any zero ts m n s e = absurd (omega arith)
last_any (suc k) ts m n s e = rw e

-- what is left is no longer
pub length_left : (k : ℕ) (ts : List Token) → length (ahead k ts) ≤ length ts
length_left zero ts = omega arith
length_left (suc k) ts = omega (arith, length_left k (next ts), length_next ts)
