use Rattle.std.proofs.Common.{◌≡◌, ℕ, ◌<◌, ◌≤◌, Bool, cond, ltb, List, [], ◌∷◌, length, take, drop, codes, Some, None, unwrap_or, refl, ap, ◌∙◌, subst, arith, rules, tests}
use Rattle.std.specs.List.{position_or_len}
use Rattle.std.specs.Slice.Iter.{windows_rest, windows_size, windows_steps}
use Rattle.std.specs.declared.slice.Windows.{Windows}
use Rattle.std.specs.Str.{bytes_eq}
use Rattle.std.proofs.lemmas.Bool.Decides.{nat_tests}
use Rattle.std.proofs.lemmas.Iterator.{YieldsList}
use Rattle.std.proofs.lemmas.Iterator.Search.{position_from_yields_List}
use Rattle.std.proofs.lemmas.Iterator.Splits.{YieldsList-from_shown_while}
use Rattle.lexeme.specs.Format.{before_close}
use Rattle.lexeme.proofs.sorts.before_close.Goals as goal

-- each byte with the next one
abbrev pairs : List ℕ → List (List ℕ)
pairs [] = []
pairs (b ∷ []) = []
pairs (b ∷ (c ∷ bs)) = (b ∷ (c ∷ [])) ∷ pairs (c ∷ bs)

pairs_none : (bs : List ℕ) → length bs < 2 → length (pairs bs) ≡ 0
pairs_none [] h = refl
pairs_none (b ∷ []) h = refl
pairs_none (b ∷ (c ∷ bs)) h = absurd (omega arith)

pairs_some : (bs : List ℕ) → 2 ≤ length bs → pairs bs ≡ take 2 bs ∷ pairs (drop 1 bs)
pairs_some [] h = absurd (omega arith)
pairs_some (b ∷ []) h = absurd (omega arith)
pairs_some (b ∷ (c ∷ bs)) h = refl

abbrev closes : List ℕ → Bool
closes w = bytes_eq w (codes "*/")

closed : (bs : List ℕ) → unwrap_or (cond (ltb (position_or_len closes (pairs bs)) (length (pairs bs))) (Some (position_or_len closes (pairs bs))) None) (length bs) ≡ before_close bs
closed [] = refl
closed (b ∷ []) = grind (arith, nat_tests)
closed (b ∷ (c ∷ bs)) = let ih = closed (c ∷ bs) in grind (arith, nat_tests)

windows_pairs : (bs : List ℕ) (s : Windows ℕ) → windows_rest s ≡ bs → windows_size s ≡ 2 → YieldsList windows_steps (λ w. w.now) s (pairs bs)
windows_pairs bs s r e =
    subst (λ l. YieldsList windows_steps (λ w. w.now) s (pairs l)) r
    (YieldsList-from_shown_while windows_steps (λ w. w.now) (λ t. pairs (windows_rest t)) (λ t. windows_size t ≡ 2)
    (λ t u p h. pairs_none (windows_rest t) (omega arith))
    (λ t w u p h. let q = pairs_some (windows_rest t) (omega arith) in (h.0 ∙ p, cc)) s e)

pub returns-clause-value : goal.returns-clause-value
returns-clause-value c =
    let bs = c.args.rest.now in
    let e : c.position.result ≡ cond (ltb (position_or_len closes (pairs bs)) (length (pairs bs))) (Some (position_or_len closes (pairs bs))) None =
    position_from_yields_List closes _ _ c.position.result c.position.ensures.ran (windows_pairs bs c.windows.result (cc) (cc)) (λ x b q k. search (rules, tests)) in
    c.unwrap_or.ensures ∙ ap (λ o. unwrap_or o (length bs)) e ∙ closed bs
