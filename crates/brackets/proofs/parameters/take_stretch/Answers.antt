use Rattle.std.proofs.Common.{◌≡◌, ℕ, ◌&&◌, ◌||◌, eqb, List, [], ◌∷◌, Some, None, sym, refl, ◌∙◌, rules}
use Rattle.std.proofs.Math.Bool.{or_assoc, or-false}
use Rattle.token.specs.Kinds.{k_eq, k_question}
use Rattle.token.specs.declared.Token.{Token}
use Rattle.brackets.specs.Depth.{deeper, folded}
use Rattle.brackets.specs.Inner.{ends_stretch, extended_by, stretch_of, told}
use Rattle.brackets.specs.Parameters.{end_of, own}
use Rattle.brackets.specs.declared.parameters.Stretch.{Stretch}
use Rattle.brackets.proofs.parameters.take_stretch.Goals as goal

-- a stretch and the tokens that go on with it, of which the first stands at depth d
abbrev continued : Stretch → ℕ → List Token → Stretch
continued s d ts =
    record {
      kind = s.kind;
      item = record {
        span = record { start = s.item.span.start; end = end_of s.item.span.end ts };
        optional = s.item.optional || own k_question d ts;
        initializer = s.item.initializer || own k_eq d ts;
      };
    }

folded_more : (ts : List Token) (d : ℕ) (s : Stretch) → folded extended_by d (Some s) ts ≡ Some (continued s d ts)
folded_more [] d s =
    λ i. Some (record { kind = s.kind; item = record { span = s.item.span; optional = sym (or-false s.item.optional) i; initializer = sym (or-false s.item.initializer) i } })
folded_more (t ∷ ts) d s =
    folded_more ts (deeper d t.kind.code) _
    ∙ (λ i. Some (record {
      kind = s.kind;
      item = record {
        span = record { start = s.item.span.start; end = end_of t.end ts };
        optional = or_assoc s.item.optional (eqb d 0 && eqb t.kind.code k_question) (own k_question (deeper d t.kind.code) ts) i;
        initializer = or_assoc s.item.initializer (eqb d 0 && eqb t.kind.code k_eq) (own k_eq (deeper d t.kind.code) ts) i;
      };
    }))

folded_told : (ts : List Token) → folded extended_by 0 None ts ≡ told ts
folded_told [] = refl
folded_told (t ∷ ts) = folded_more ts (deeper 0 t.kind.code) _

pub returns-clause-value : goal.returns-clause-value
returns-clause-value g c =
    c.fold_until.ensures.value ends_stretch extended_by (λ d t b h. search rules) (λ s d t s' h. search rules)
    ∙ folded_told (stretch_of (g.R.TokenReader.tokens c.args.r.now))
