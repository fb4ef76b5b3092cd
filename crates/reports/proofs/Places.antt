-- One report for each place, found place by place.
use Rattle.std.proofs.Common.{◌≡◌, ℕ, suc, ◌<◌, ◌≤◌, Bool, true, false, ◌||◌, eqb, List, [], ◌∷◌, refl, subst, arith}
use Rattle.std.proofs.lemmas.Bool.Decides.{nat_tests}
use Rattle.reports.specs.OneEach.{Ascending, Each, Every, OneEach, is_in}
use Rattle.reports.specs.declared.Report.{Report}

pub every_weaker : {A : Type 0} {P Q : A → Type 0} → ((x : A) → P x → Q x) → (xs : List A) → Every P xs → Every Q xs
every_weaker f [] h = tt
every_weaker f (x ∷ xs) h = (f x h.0, every_weaker f xs h.1)

module _ (Such : ℕ → Type 0) (Is : ℕ → Report → Type 0) where
  -- the same from a place on
  pub record OneFrom (m n : ℕ) (rs : List Report) : Type 0 where
    pub places : List ℕ
    pub from : Every (λ i. m ≤ i) places
    pub ascending : Ascending places
    pub such : Every (λ i. (i < n) × Such i) places
    pub all : (i : ℕ) → m ≤ i → i < n → Such i → is_in i places ≡ true
    pub reports : Each Is places rs

  pub from_end : (m n : ℕ) → n ≤ m → OneFrom m n []
  from_end m n h = record { places = []; from = tt; ascending = tt; such = tt; all = λ i l k s. absurd (omega arith); reports = tt }

  pub from_skip : (m n : ℕ) (rs : List Report) → (Such m → ⊥) → OneFrom (suc m) n rs → OneFrom m n rs
  from_skip m n rs h x =
      record {
        places = x.places;
        from = every_weaker (λ i l. omega arith) x.places x.from;
        ascending = x.ascending;
        such = x.such;
        all = λ i l k s. go i l k s (eqb i m) refl;
        reports = x.reports;
      }
    where
      go : (i : ℕ) → m ≤ i → i < n → Such i → (b : Bool) → eqb i m ≡ b → is_in i x.places ≡ true
      go i l k s true e = let q : i ≡ m = grind (arith, nat_tests) in absurd (h (subst Such q s))
      go i l k s false e = x.all i (grind (arith, nat_tests)) k s

  pub from_take : (m n : ℕ) (r : Report) (rs : List Report) → m < n → Such m → Is m r → OneFrom (suc m) n rs → OneFrom m n (r ∷ rs)
  from_take m n r rs l s is x =
      record {
        places = m ∷ x.places;
        from = (omega arith, every_weaker (λ i k. omega arith) x.places x.from);
        ascending = (every_weaker (λ i k. omega arith) x.places x.from, x.ascending);
        such = ((l, s), x.such);
        all = λ i k j t. go i k j t (eqb m i) refl;
        reports = (is, x.reports);
      }
    where
      go : (i : ℕ) → m ≤ i → i < n → Such i → (b : Bool) → eqb m i ≡ b → (b || is_in i x.places) ≡ true
      go i k j t true e = refl
      go i k j t false e = x.all i (grind (arith, nat_tests)) j t

  pub from_all : (n : ℕ) (rs : List Report) → OneFrom 0 n rs → OneEach Such Is n rs
  from_all n rs x =
      record {
        places = x.places;
        ascending = x.ascending;
        such = x.such;
        all = λ i k s. x.all i (omega arith) k s;
        reports = x.reports;
      }
