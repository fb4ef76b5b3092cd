-- One report for each place of some sort.
use Rattle.std.specs.Prelude.{◌≡◌, ℕ, ◌<◌, Bool, true, false, ◌||◌, List, [], ◌∷◌, ◌==◌}
use Rattle.reports.specs.declared.Report.{Report}

-- of each
abbrev pub Every : {A : Type 0} → (A → Type 0) → List A → Type 0
Every P [] = Unit {0}
Every P (x ∷ xs) = P x × Every P xs

-- one by one
abbrev pub Each : {A B : Type 0} → (A → B → Type 0) → List A → List B → Type 0
Each R [] [] = Unit {0}
Each R [] (y ∷ ys) = ⊥
Each R (x ∷ xs) [] = ⊥
Each R (x ∷ xs) (y ∷ ys) = R x y × Each R xs ys

-- each number above those before it
abbrev pub Ascending : List ℕ → Type 0
Ascending [] = Unit {0}
Ascending (i ∷ is) = Every (λ j. i < j) is × Ascending is

-- whether a number is one of these
abbrev pub is_in : ℕ → List ℕ → Bool
is_in i [] = false
is_in i (j ∷ js) = j == i || is_in i js

-- one report for each place below n that is such, in order, and no other
pub record OneEach (Such : ℕ → Type 0) (Is : ℕ → Report → Type 0) (n : ℕ) (rs : List Report) : Type 0 where
  pub places : List ℕ
  pub ascending : Ascending places
  pub such : Every (λ i. (i < n) × Such i) places
  pub all : (i : ℕ) → i < n → Such i → is_in i places ≡ true
  pub reports : Each Is places rs
