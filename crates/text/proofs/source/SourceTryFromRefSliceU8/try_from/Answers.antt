use Rattle.std.proofs.Common.{◌≡◌, ℕ, zero, suc, ◌≤◌, true, false, List, [], ◌∷◌, get_or, refl, arith, lt-ltb}
use Rattle.std.specs.Str.{IsAscii}
use Rattle.std.proofs.lemmas.Bool.Decides.{nat_tests}
use Rattle.text.specs.Lexed.{is_ascii}
use Rattle.text.proofs.source.SourceTryFromRefSliceU8.try_from.Goals as goal

all_below : (bs : List ℕ) → IsAscii bs → is_ascii bs ≡ true
all_below [] h = refl
all_below (b ∷ bs) h = rw (lt-ltb b 128 (h 0), all_below bs (λ i. h (suc i)))

one_above : (bs : List ℕ) (i : ℕ) → 128 ≤ get_or bs i 0 → is_ascii bs ≡ false
one_above [] i h = absurd (omega arith)
one_above (b ∷ bs) zero h = grind (arith, nat_tests)
one_above (b ∷ bs) (suc i) h = let e = one_above bs i h in grind (arith, nat_tests)

pub returns-then-not-is_ascii : goal.returns-then-not-is_ascii
returns-then-not-is_ascii c =
    let w = c.if-not-is_ascii.ensures.cases in
    let e = one_above c.args.text.now w.0 w.1 in
    (grind (arith, nat_tests), tt)

pub returns : goal.returns
returns c =
    let e = all_below c.args.text.now c.if-not-is_ascii.ensures.cases in
    (grind (arith, nat_tests), refl)
