-- What and, or, xor, masks and powers of two do to the members of a set.
use Rattle.std.proofs.Common.{◌≡◌, ℕ, zero, suc, ◌+◌, ◌-◌, ◌*◌, ◌/◌, ◌%◌, ◌^◌, ◌<◌, ◌≤◌, min, max, true, false, cond, not, ◌&&◌, ◌||◌, eqb, ltb, ◌⊎◌, [], ◌∷◌, length, sym, refl, ap, ◌∙◌, ⊎_elim, one-add, arith, lit<, length-append, pow_pos, pow_mono, pow-add}
use Prim.Native.Nat.{differ}
use lib.Dec.{eqb-zero-suc, eqb-suc-zero, eqb-suc-suc}
use lib.Bits.{bit_and, bit_or, bit_xor, and_shr, or_shr, xor_shr, and_step, or_step, xor_step}
use lib.Count.{ones, ones_step, ones_cat, ones-le}
use Rattle.std.proofs.lemmas.Nat.{shr-shr, mod-pow-add, mod_below, div_below}
use Rattle.std.proofs.lemmas.Bool.{cases_lt, lt-ltb, le-ltb, cases_Bool, and_from, and_left, both_ways, eqb-true, eqb-false, not-true, not-false}
use Rattle.small_set.specs.Members.{member, members_below}

abbrev bit : ℕ → ℕ → ℕ
bit n k = n / 2 ^ k % 2

-- what holds of the four pairs of bits holds of any two numbers below 2
four : (P : ℕ → ℕ → Type 0) → P 0 0 → P 0 1 → P 1 0 → P 1 1 → (x y : ℕ) → x < 2 → y < 2 → P x y
four P a b c d zero zero h k = a
four P a b c d zero (suc zero) h k = b
four P a b c d (suc zero) zero h k = c
four P a b c d (suc zero) (suc zero) h k = d
four P a b c d zero (suc (suc y)) h k = let z : ⊥ = omega arith in absurd z
four P a b c d (suc zero) (suc (suc y)) h k = let z : ⊥ = omega arith in absurd z
four P a b c d (suc (suc x)) y h k = let z : ⊥ = omega arith in absurd z

or_bit : (a b k : ℕ) → bit (bit_or a b) k ≡ max (bit a k) (bit b k)
or_bit a b k = rw or_shr (let h = or_step (a / 2 ^ k) (b / 2 ^ k) in omega arith)

and_bit : (a b k : ℕ) → bit (bit_and a b) k ≡ min (bit a k) (bit b k)
and_bit a b k = rw and_shr (let h = and_step (a / 2 ^ k) (b / 2 ^ k) in omega arith)

differ_small : (x y : ℕ) → x < 2 → y < 2 → differ x y < 2
differ_small = four (λ x y. differ x y < 2) (lit< tt) (lit< tt) (lit< tt) (lit< tt)

xor_bit : (a b k : ℕ) → bit (bit_xor a b) k ≡ differ (bit a k) (bit b k)
xor_bit a b k =
    rw xor_shr
    (let h = xor_step (a / 2 ^ k) (b / 2 ^ k) in
    let s = differ_small (a / 2 ^ k % 2) (b / 2 ^ k % 2) (omega arith) (omega arith) in
    omega arith)

-- the union, with its second part in front
pub or_member : (a b k : ℕ) → member (bit_or a b) k ≡ (member b k || member a k)
unfolding member
or_member a b k =
    ap (λ n. eqb n 1) (or_bit a b k)
    ∙ four (λ x y. eqb (max x y) 1 ≡ (eqb y 1 || eqb x 1)) refl refl refl refl (bit a k) (bit b k) (omega arith) (omega arith)

pub and_member : (a b k : ℕ) → member (bit_and a b) k ≡ (member a k && member b k)
unfolding member
and_member a b k =
    ap (λ n. eqb n 1) (and_bit a b k)
    ∙ four (λ x y. eqb (min x y) 1 ≡ (eqb x 1 && eqb y 1)) refl refl refl refl (bit a k) (bit b k) (omega arith) (omega arith)

-- a with what it shares with b taken out
pub minus_member : (a b k : ℕ) → member (bit_xor a (bit_and a b)) k ≡ (member a k && not (member b k))
unfolding member
minus_member a b k =
    ap (λ n. eqb n 1) (xor_bit a (bit_and a b) k ∙ ap (differ (bit a k)) (and_bit a b k))
    ∙ four (λ x y. eqb (differ x (min x y)) 1 ≡ (eqb x 1 && not (eqb y 1))) refl refl refl refl (bit a k) (bit b k) (omega arith) (omega arith)

double_pow : (n : ℕ) → 2 ^ suc n ≡ 2 * 2 ^ n
double_pow n = ap (λ m. 2 ^ m) (sym (one-add n)) ∙ pow-add 2 1 n

shift_bit : (n k : ℕ) → bit n (suc k) ≡ bit (n / 2) k
shift_bit n k = ap (λ m. n / 2 ^ m % 2) (sym (one-add k)) ∙ ap (λ m. m % 2) (sym (shr-shr n 1 k))

-- a number after the first is in a set exactly if the one before is in the half
pub member_suc : (n k : ℕ) → member n (suc k) ≡ member (n / 2) k
unfolding member
member_suc n k = ap (λ m. eqb m 1) (shift_bit n k)

pub zero_member : (k : ℕ) → member 0 k ≡ false
unfolding member
zero_member zero = refl
zero_member (suc k) = member_suc 0 k ∙ zero_member k

-- a power of two is a set of one
pub pow_member : (n k : ℕ) → member (2 ^ n) k ≡ eqb n k
unfolding member
pow_member zero zero = refl
pow_member zero (suc k) = member_suc 1 k ∙ zero_member k ∙ sym (eqb-zero-suc k)
pow_member (suc n) zero = ap (λ m. eqb m 1) (let h = double_pow n in let z : 2 ^ suc n / 1 % 2 ≡ 0 = omega arith in z) ∙ sym (eqb-suc-zero n)
pow_member (suc n) (suc k) =
    let half : 2 ^ suc n / 2 ≡ 2 ^ n = (let h = double_pow n in omega arith) in
    member_suc (2 ^ suc n) k ∙ ap (λ m. member m k) half ∙ pow_member n k ∙ sym (eqb-suc-suc n k)

-- one less than a power of two is the set of the numbers below the exponent
pub mask_member : (n k : ℕ) → member (2 ^ n - 1) k ≡ ltb k n
unfolding member
mask_member zero k = zero_member k ∙ sym (le-ltb k 0 (omega arith))
mask_member (suc n) zero =
    let d = double_pow n in
    let p = pow_pos n in
    ap (λ m. eqb m 1) (let z : (2 ^ suc n - 1) / 1 % 2 ≡ 1 = omega arith in z) ∙ sym (lt-ltb 0 (suc n) (omega arith))
mask_member (suc n) (suc k) =
    let d = double_pow n in
    let p = pow_pos n in
    let half : (2 ^ suc n - 1) / 2 ≡ 2 ^ n - 1 = omega arith in
    member_suc (2 ^ suc n - 1) k ∙ ap (λ m. member m k) half ∙ mask_member n k ∙ again k n
  where
    again : (j m : ℕ) → ltb j m ≡ ltb (suc j) (suc m)
    again j m = ⊎_elim (λ l. lt-ltb j m l ∙ sym (lt-ltb (suc j) (suc m) (omega arith))) (λ l. le-ltb j m l ∙ sym (le-ltb (suc j) (suc m) (omega arith))) (cases_lt j m)

-- the members of a set below a power of two are below the exponent
pub member_below : (n bits j : ℕ) → bits < 2 ^ n → member bits j ≡ true → j < n
unfolding member
member_below n bits j h t = ⊎_elim (λ l. l) (λ l. let z : ⊥ = both_ways (member bits j) (high l) t in absurd z) (cases_lt j n)
  where
    high : n ≤ j → member bits j ≡ false
    high l =
        let p : 2 ^ n ≤ 2 ^ j = pow_mono l in
        let q : bits / 2 ^ j < 1 = div_below bits (2 ^ j) 1 (pow_pos j) (omega arith) in
        ap (λ m. eqb m 1) (let z : bits / 2 ^ j % 2 ≡ 0 = omega arith in z)

-- a set that is not 0 has a member
some_member : (n bits : ℕ) → bits < 2 ^ n → 0 < bits → (j : ℕ) × (member bits j ≡ true)
unfolding member
some_member zero bits h p = let z : ⊥ = omega arith in absurd z
some_member (suc n) bits h p =
    let d = double_pow n in
    ⊎_elim here (λ l. up (some_member n (bits / 2) (omega arith) (omega arith))) (cases_lt 0 (bits % 2))
  where
    here : 0 < bits % 2 → (j : ℕ) × (member bits j ≡ true)
    here l = (0, ap (λ m. eqb m 1) (let z : bits / 1 % 2 ≡ 1 = omega arith in z))

    up : (j : ℕ) × (member (bits / 2) j ≡ true) → (j : ℕ) × (member bits j ≡ true)
    up m = (suc m.0, member_suc bits m.0 ∙ m.1)

-- the test against 0 says whether a set has members
pub inhabited : (bits : ℕ) → bits < 65536 → not (eqb bits 0) ≡ true → (j : ℕ) × (member bits j ≡ true)
inhabited bits h t = some_member 16 bits h (let e = eqb-false bits 0 (not-true _ t) in omega arith)

pub empty : (bits : ℕ) → not (eqb bits 0) ≡ false → (j : ℕ) → member bits j ≡ false
empty bits t j = ap (λ n. member n j) (eqb-true bits 0 (not-false _ t)) ∙ zero_member j

-- a set without the only member of a power of two
pub less_one : (r bits one n : ℕ) → ((j : ℕ) → member r j ≡ (member bits j && not (member one j))) → one ≡ 2 ^ n → (j : ℕ) → member r j ≡ (member bits j && not (eqb n j))
less_one r bits one n h e j = h j ∙ ap (λ b. member bits j && not b) (ap (λ m. member m j) e ∙ pow_member n j)

-- sets with the same members are the same
pub same_members : (n a b : ℕ) → a < 2 ^ n → b < 2 ^ n → ((j : ℕ) → member a j ≡ member b j) → a ≡ b
unfolding member
same_members zero a b ha hb h = omega arith
same_members (suc n) a b ha hb h =
    let d = double_pow n in
    let up : a / 2 ≡ b / 2 = same_members n (a / 2) (b / 2) (omega arith) (omega arith) (λ j. sym (member_suc a j) ∙ h (suc j) ∙ member_suc b j) in
    let low : a / 1 % 2 ≡ b / 1 % 2 = first (a / 1 % 2) (b / 1 % 2) (omega arith) (omega arith) (h 0) in
    omega arith
  where
    first : (x y : ℕ) → x < 2 → y < 2 → eqb x 1 ≡ eqb y 1 → x ≡ y
    first = four (λ x y. eqb x 1 ≡ eqb y 1 → x ≡ y) (λ _. refl) (λ e. cc) (λ e. cc) (λ _. refl)

-- what a set shares with the set of the numbers below n
pub low_part : (r bits all n : ℕ) → ((j : ℕ) → member r j ≡ (member bits j && member all j)) → ((j : ℕ) → member all j ≡ ltb j n) → (j : ℕ) → member r j ≡ (member bits j && ltb j n)
low_part r bits all n h e j = h j ∙ ap (λ b. member bits j && b) (e j)

-- a set below a power of two loses nothing where the numbers from the exponent on are taken out
pub keeps : (n r bits : ℕ) → r < 2 ^ n → bits < 2 ^ n → ((j : ℕ) → member r j ≡ (member bits j && ltb j n)) → r ≡ bits
keeps n r bits hr hb h = same_members n r bits hr hb (λ j. h j ∙ low j (cases_Bool (member bits j)))
  where
    low : (j : ℕ) → (member bits j ≡ true) ⊎ (member bits j ≡ false) → (member bits j && ltb j n) ≡ member bits j
    low j = ⊎_elim (λ t. and_from _ _ t (lt-ltb j n (member_below n bits j hb t)) ∙ sym t) (λ f. and_left _ _ f ∙ sym f)

-- as many ones as members
one_bit : (a n : ℕ) → a < 2 → ones a ≡ length (cond (eqb a 1) (n ∷ []) [])
one_bit zero n h = let e = ones-le 0 0 (omega arith) in omega arith
one_bit (suc zero) n h = let e = ones-le 0 0 (omega arith) in let s = ones_step 1 in omega arith
one_bit (suc (suc a)) n h = let z : ⊥ = omega arith in absurd z

pub counted : (bits k : ℕ) → ones (bits % 2 ^ k) ≡ length (members_below bits k)
unfolding member
counted bits zero = ap ones (let z : bits % 1 ≡ 0 = omega arith in z) ∙ one_bit 0 0 (omega arith)
counted bits (suc k) =
    ap (λ m. ones (bits % 2 ^ m)) (sym (one-add k))
    ∙ ap ones (mod-pow-add bits 1 k)
    ∙ ones_cat k (bits / 2 ^ k % 2) (bits % 2 ^ k) (mod_below bits (2 ^ k) (pow_pos k))
    ∙ ap (λ m. m + ones (bits % 2 ^ k)) (one_bit (bits / 2 ^ k % 2) k (omega arith))
    ∙ (let ih = counted bits k in let l = length-append (members_below bits k) (cond (member bits k) (k ∷ []) []) in omega arith)
