-- What the order of keywords earns: one report for each that is misplaced.
use Rattle.std.proofs.Common.{◌≡◌, ℕ, suc, ◌<◌, Bool, true, false, ◌&&◌, List, [], ◌∷◌, ◌++◌, length, take, Some, None, Option, sym, refl, ap, ◌∙◌, subst, ⊎_elim, append_assoc, append-nil, arith, length-append}
use Rattle.std.proofs.Math.Seq.{get_or-append_seam, take-append_seam}
use Rattle.std.proofs.lemmas.Bool.{and_from, and_parts, both_ways, cases_Bool}
use Rattle.kinds.specs.Modifiers.{modifier_number}
use Rattle.kinds.specs.declared.modifier_kind.ModifierKind.{ModifierKind}
use Rattle.kinds.specs.declared.modifier_kind.ModifierKind.TheVariants.{Declare}
use Rattle.modifiers.specs.Entries.{added, end_of, keeps, word_at}
use Rattle.modifiers.specs.declared.modifier.Modifier.{Modifier}
use Rattle.reports.proofs.Places.{OneFrom, from_all, from_end, from_skip, from_take}
use Rattle.reports.specs.Reports.{keyword_report, kind_or_255}
use Rattle.reports.specs.declared.Report.{Report}
use Rattle.rules.specs.Rules.{rule_number}
use Rattle.rules.specs.declared.Rule.TheVariants.{AccessibilityAlreadySeen, AlreadySeen}
use Rattle.verdicts.proofs.Ordered.{order_alike, order_rules}
use Rattle.kinds.proofs.Numbered.{numbers}
use Rattle.verdicts.proofs.Pairs.{any_from, any_some}
use Rattle.verdicts.specs.Orders.{NoneForbidden, OrderRules, naming, order_of, silent}
use Rattle.verdicts.specs.Verdicts.{any_of, every_kind, forbids}
use Rattle.verdicts.specs.declared.order.OrderVerdict.{OrderVerdict}
use Rattle.keywords.proofs.Cuts.{keeps_lasts, lasts_push, length_push}
use Rattle.keywords.specs.Laws.{Misplaced, OrderEarned, Prescribed, kept_before, keyword_at, kind_at}
use Rattle.keywords.specs.Run.{lasts, order_reports, place_of, reports_of}

-- whether some kept kind is forbidden
module _ (kept : ModifierKind → Bool) (later : ModifierKind) where
  abbrev offends : ModifierKind → Bool
  offends k = kept k && forbids later k

  some_offend : any_of offends every_kind ≡ true → (k : ModifierKind) × (kept k ≡ true) × (forbids later k ≡ true)
  some_offend h =
      let m = any_some offends every_kind h in
      let p = and_parts (kept m.0) (forbids later m.0) m.2 in (m.0, p.0, p.1)

  none_offend : any_of offends every_kind ≡ false → NoneForbidden kept later
  none_offend h k a =
      ⊎_elim (λ f. absurd (both_ways (any_of offends every_kind) h (any_from offends every_kind k (numbers k).2 (and_from (kept k) (forbids later k) a f)))) (λ f. f)
      (cases_Bool (forbids later k))

told : (v w : OrderVerdict) → Some v ≡ Some w → (rule_number v.rule ≡ rule_number w.rule) × (kind_or_255 v.other ≡ kind_or_255 w.other)
told v w e = let q : v ≡ w = cc in (ap (λ x. rule_number x.rule) q, ap (λ x. kind_or_255 x.other) q)

-- the report of one misplaced keyword
module _ (kept : List Modifier) (i : ℕ) (m : Modifier) (here : keyword_at kept i ≡ m) where
  abbrev says : Option OrderVerdict
  says = order_of (kept_before kept i) m.kind

  abbrev report_of : OrderVerdict → Report
  report_of v = keyword_report (rule_number v.rule) m.kind (place_of m) v.other None

  prescribed : (v : OrderVerdict) → says ≡ Some v → Prescribed kept i (report_of v)
  prescribed v e =
      let o : OrderRules (kept_before kept i) (kind_at kept i) = order_rules (kept_before kept i) (kind_at kept i) in
      let said : order_of (kept_before kept i) (kind_at kept i) ≡ Some v = ap (λ x. order_of (kept_before kept i) x.kind) here ∙ e in
      record {
        start = sym (ap (λ x. x.start) here);
        end = sym (ap end_of here);
        kind = sym (ap (λ x. modifier_number x.kind) here);
        allowed = refl;
        second = λ g. told v (silent AccessibilityAlreadySeen) (sym said ∙ o.second g);
        again = λ g. told v (silent AlreadySeen) (sym said ∙ o.again g);
        lowest = λ k l f g.
            let x = o.lowest k l f g in
            let t = told v (naming x.0 k) (sym said ∙ x.2) in (t.0 ∙ x.1, t.1);
      }

orders_from : (kept pre rest : List Modifier) → kept ≡ pre ++ rest → OneFrom (Misplaced kept) (Prescribed kept) (length pre) (length kept) (order_reports (lasts pre) rest)
orders_from kept pre [] e =
    from_end (Misplaced kept) (Prescribed kept) (length pre) (length kept)
    (let l : length kept ≡ length pre = ap length (e ∙ append-nil pre) in omega arith)
orders_from kept pre (m ∷ ms) e =
    subst (λ (o : Option OrderVerdict). OneFrom (Misplaced kept) (Prescribed kept) (length pre) (length kept) (reports_of o m ++ order_reports (added (lasts pre) m) ms)) (sym alike)
    (step (order_of before m.kind) refl (order_reports (added (lasts pre) m) ms)
    (rw (length_push pre m, lasts_push [] pre m) at (orders_from kept (pre ++ (m ∷ [])) ms (e ∙ sym (append_assoc pre (m ∷ []) ms)))))
  where
    here : keyword_at kept (length pre) ≡ m
    here = ap (λ l. keyword_at l (length pre)) e ∙ get_or-append_seam pre m ms (word_at Declare 0)

    lt : length pre < length kept
    lt = rw e (omega (arith, length-append pre (m ∷ ms)))

    before : ModifierKind → Bool
    before = kept_before kept (length pre)

    -- the kinds kept before are those of the list with each kind once
    alike : order_of (λ k. keeps k (lasts pre)) m.kind ≡ order_of before m.kind
    alike = order_alike (λ k. keeps k (lasts pre)) before (λ k. keeps_lasts k pre ∙ sym (ap (keeps k) (ap (take (length pre)) e ∙ take-append_seam pre (m ∷ ms)))) m.kind

    found : (v : OrderVerdict) → order_of before m.kind ≡ Some v → Misplaced kept (length pre)
    found v f =
        ⊎_elim
        (λ s.
        let o = some_offend before m.kind s in (o.0, o.1, ap (λ x. forbids x.kind o.0) here ∙ o.2))
        (λ s.
        let n = (order_rules before m.kind).nothing (none_offend before m.kind s) in
        let z : ◌≡◌ {A = ℕ} 0 1 = cc in absurd (omega arith))
        (cases_Bool (any_of (offends before m.kind) every_kind))

    step : (o : Option OrderVerdict) → order_of before m.kind ≡ o → (rs : List Report) → OneFrom (Misplaced kept) (Prescribed kept) (suc (length pre)) (length kept) rs → OneFrom (Misplaced kept) (Prescribed kept) (length pre) (length kept) (reports_of o m ++ rs)
    step None f rs x =
        from_skip (Misplaced kept) (Prescribed kept) (length pre) (length kept) rs
        (λ p. both_ways (forbids m.kind p.0) ((order_rules before m.kind).only_then f p.0 p.1) (sym (ap (λ x. forbids x.kind p.0) here) ∙ p.2)) x
    step (Some v) f rs x =
        from_take (Misplaced kept) (Prescribed kept) (length pre) (length kept) _ rs lt (found v f) (prescribed kept (length pre) m here v f) x

pub orders_earned : (kept : List Modifier) → OrderEarned kept (order_reports [] kept)
orders_earned kept = from_all (Misplaced kept) (Prescribed kept) (length kept) (order_reports [] kept) (orders_from kept [] kept refl)
