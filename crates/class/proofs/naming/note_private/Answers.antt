use Rattle.std.proofs.Common.{◌≡◌, None, ap, ◌∙◌, arith}
use Rattle.std.proofs.lemmas.Grind.{common_steps}
use Rattle.class.proofs.Steps.{done_is}
use Rattle.dialogue.proofs.Steps.{note_spoke}
use Rattle.parts.specs.declared.Span.{Span}
use Rattle.records.specs.declared.record.NameKind.TheVariants.{Private}
use Rattle.class.specs.Noting.{report_if}
use Rattle.class.specs.Naming.{is_constructor_name, named, private_name_d, special_of}
use Rattle.class.proofs.naming.note_private.Goals as goal

pub returns : goal.returns
unfolding private_name_d
returns c = λ s.
    let e : c.eq-constructor.result ≡ is_constructor_name (special_of c.args.t.name) = grind (arith, common_steps) in
    note_spoke _ _ (λ i. report_if (e i) 20 (c.from-place.ensures i)) c.note_if.ensures
    (done_is (c.name_at.ensures ∙ ap (λ (p : Span). named Private p None) c.from-place.ensures))
