-- What the code holds of a parameter list while it reads, in terms of the tokens. The format itself does not speak of it.
use Rattle.std.specs.Prelude.{ℕ, ◌+◌, Bool, cond, not, ◌&&◌, ◌||◌, List, [], ◌∷◌, is_some, Some, None, Option, ◌==◌}
use Rattle.std.specs.Option.{option_or}
use Rattle.reader.specs.Tokens.{is_eof}
use Rattle.token.specs.Kinds.{k_comma, k_dot3, k_eq, k_question, k_this}
use Rattle.token.specs.Spans.{span_of}
use Rattle.token.specs.declared.Token.{Token}
use Rattle.brackets.specs.Depth.{capped, closes, up_to}
use Rattle.brackets.specs.Parameters.{end_of, own}
use Rattle.brackets.specs.declared.parameters.Parameters.{Parameters}
use Rattle.brackets.specs.declared.parameters.Stretch.{Stretch}

-- before Eof, and outside the stretch's own brackets before a comma or a closer
abbrev pub ends_stretch : ℕ → Token → Bool
ends_stretch d t = is_eof t || (d == 0 && (closes t.kind.code || t.kind.code == k_comma))

abbrev pub stretch_of : List Token → List Token
stretch_of ts = up_to ends_stretch 0 ts

-- what is told of a stretch that has a token
abbrev pub told : List Token → Option Stretch
told [] = None
told (t ∷ ts) =
    Some (record {
      kind = t.kind;
      item = record { span = record { start = t.start; end = end_of t.end ts }; optional = own k_question 0 (t ∷ ts); initializer = own k_eq 0 (t ∷ ts) };
    })

-- with one more token, at depth d
abbrev pub extended_by : ℕ → Token → Option Stretch → Option Stretch
extended_by d t None =
    Some (record {
      kind = t.kind;
      item = record { span = span_of t; optional = d == 0 && t.kind.code == k_question; initializer = d == 0 && t.kind.code == k_eq };
    })
extended_by d t (Some s) =
    Some (record {
      kind = s.kind;
      item = record {
        span = record { start = s.item.span.start; end = t.end };
        optional = s.item.optional || (d == 0 && t.kind.code == k_question);
        initializer = s.item.initializer || (d == 0 && t.kind.code == k_eq);
      };
    })

abbrev pub none : Parameters
none = record { this_param = None; rest = None; first_item = None; count = 0 }

-- the parameters with one more stretch, if there is one
abbrev pub with_one : Parameters → Option Stretch → Parameters
with_one p None = p
with_one p (Some s) =
    cond (s.kind.code == k_dot3 && not (is_some p.rest))
    (record { this_param = p.this_param; rest = Some s.item.span; first_item = p.first_item; count = capped (p.count + 1) })
    (record { this_param = p.this_param; rest = p.rest; first_item = option_or p.first_item (Some s.item); count = capped (p.count + 1) })

-- the parameters of the first stretch alone
abbrev pub started_by : Option Stretch → Parameters
started_by None = none
started_by (Some s) =
    cond (s.kind.code == k_this)
    (record { this_param = Some s.item.span; rest = None; first_item = None; count = 0 })
    (with_one none (Some s))
