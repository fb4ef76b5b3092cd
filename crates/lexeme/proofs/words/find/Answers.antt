use Rattle.std.proofs.Common.{◌≡◌, Bor, MatchOption, ℕ, Bool, true, false, cond, List, [], ◌∷◌, Some, None, Option, refl, ap, ◌∙◌, rules, tests}
use Rattle.std.specs.List.{find}
use Rattle.std.specs.Option.{option_map, option_map_or}
use Rattle.std.specs.Str.{bytes_eq}
use Rattle.std.proofs.lemmas.Iterator.{YieldsList-from_slice}
use Rattle.std.proofs.lemmas.Iterator.Search.{find_from_yields_List}
use Rattle.token.specs.Kinds.{k_ident}
use Rattle.token.specs.declared.kind.Kind.{Kind}
use Rattle.lexeme.specs.Rows.{rows_kind}
use Rattle.lexeme.specs.declared.words.Row.{Row}
use Rattle.lexeme.proofs.words.find.Goals as goal

abbrev has_word : List ℕ → Row → Bool
has_word s w = bytes_eq s w.word.now

kind_found : (ws : List Row) (s : List ℕ) → option_map_or (λ w. w.kind.code) (find (has_word s) ws) k_ident ≡ rows_kind ws s
kind_found [] s = refl
kind_found (w ∷ ws) s = by (has_word s w) (kind_found ws s)
  where
    by : (b : Bool) → option_map_or (λ v. v.kind.code) (find (has_word s) ws) k_ident ≡ rows_kind ws s → option_map_or (λ v. v.kind.code) (cond b (Some w) (find (has_word s) ws)) k_ident ≡ cond b w.kind.code (rows_kind ws s)
    by true e = refl
    by false e = e

mapped : (o : Option (Bor Row)) (r : Kind) → MatchOption o (r ≡ record { code = k_ident }) (λ x. r ≡ x.now.kind) → r.code ≡ option_map_or (λ w. w.kind.code) (option_map (λ x. x.now) o) k_ident
mapped None r h = ap (λ k. k.code) h
mapped (Some x) r h = ap (λ k. k.code) h

pub returns : goal.returns
returns c =
    let ws = c.args.rows.now in
    let s = c.args.text.now in
    let e : option_map (λ x. x.now) c.find.result ≡ find (has_word s) ws = find_from_yields_List (has_word s) _ _ c.find.result c.find.ensures.ran (YieldsList-from_slice ws (cc)) (λ x b q k. search (rules, tests)) in
    mapped c.find.result c.map_or.result (search rules) ∙ ap (λ o. option_map_or (λ w. w.kind.code) o k_ident) e ∙ kind_found ws s
