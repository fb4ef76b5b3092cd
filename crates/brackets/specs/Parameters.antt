-- The parameters of a method: the stretches into which a list's own commas part what stands in its brackets.
use Rattle.std.specs.Prelude.{ℕ, ◌+◌, Bool, false, cond, ◌&&◌, ◌||◌, List, [], ◌∷◌, length, Some, None, Option, ◌==◌}
use Rattle.parts.specs.declared.Span.{Span}
use Rattle.reader.specs.Tokens.{head, is_nil}
use Rattle.token.specs.Kinds.{k_comma, k_dot3, k_eq, k_question, k_this}
use Rattle.token.specs.declared.Token.{Token}
use Rattle.brackets.specs.Depth.{capped, deeper}
use Rattle.brackets.specs.declared.parameters.Item.{Item}
use Rattle.brackets.specs.declared.parameters.Parameters.{Parameters}

-- a token of kind k that stands at depth 0, among tokens of which the first stands at depth d
abbrev pub own : ℕ → ℕ → List Token → Bool
own k d [] = false
own k d (t ∷ ts) = (d == 0 && t.kind.code == k) || own k (deeper d t.kind.code) ts

-- a token before the first stretch
abbrev pub onto : Token → List (List Token) → List (List Token)
onto t [] = (t ∷ []) ∷ []
onto t (s ∷ ss) = (t ∷ s) ∷ ss

-- the stretches between the commas at depth 0, of tokens of which the first stands at depth d
abbrev pub stretches : ℕ → List Token → List (List Token)
stretches d [] = [] ∷ []
stretches d (t ∷ ts) =
    cond (d == 0 && t.kind.code == k_comma) ([] ∷ stretches (deeper d t.kind.code) ts) (onto t (stretches (deeper d t.kind.code) ts))

-- the stretches that are not empty
abbrev pub filled : List (List Token) → List (List Token)
filled [] = []
filled (s ∷ ss) = cond (is_nil s) (filled ss) (s ∷ filled ss)

abbrev pub begins_with : ℕ → List Token → Bool
begins_with k s = (head s).kind.code == k

-- the very first stretch, if it begins with `this`
abbrev pub this_of : List (List Token) → Option (List Token)
this_of [] = None
this_of (s ∷ ss) = cond (begins_with k_this s) (Some s) None

-- all but that
abbrev pub without_this : List (List Token) → List (List Token)
without_this [] = []
without_this (s ∷ ss) = cond (begins_with k_this s) ss (s ∷ ss)

-- the first stretch that begins with `...`
abbrev pub rest_of : List (List Token) → Option (List Token)
rest_of [] = None
rest_of (s ∷ ss) = cond (begins_with k_dot3 s) (Some s) (rest_of ss)

-- all but that: a later one is an item
abbrev pub items_of : List (List Token) → List (List Token)
items_of [] = []
items_of (s ∷ ss) = cond (begins_with k_dot3 s) ss (s ∷ items_of ss)

abbrev pub first : List (List Token) → Option (List Token)
first [] = None
first (s ∷ ss) = Some s

-- the end of the last token, or e where there is none
abbrev pub end_of : ℕ → List Token → ℕ
end_of e [] = e
end_of e (t ∷ ts) = end_of t.end ts

abbrev pub span_of : Option (List Token) → Option Span
span_of None = None
span_of (Some s) = Some (record { start = (head s).start; end = end_of 0 s })

-- what is told of an item
abbrev pub item_of : Option (List Token) → Option Item
item_of None = None
item_of (Some s) =
    Some (record { span = record { start = (head s).start; end = end_of 0 s }; optional = own k_question 0 s; initializer = own k_eq 0 s })

abbrev pub one_if : Option (List Token) → ℕ
one_if None = 0
one_if (Some s) = 1

-- the facts of the `this` parameter and of the stretches besides: the rest, the first item, and how many items and rest
-- there are
abbrev pub listed : Option (List Token) → List (List Token) → Parameters
listed this ss =
    record {
      this_param = span_of this;
      rest = span_of (rest_of ss);
      first_item = item_of (first (items_of ss));
      count = capped (length (items_of ss) + one_if (rest_of ss));
    }

-- the facts of all stretches: empty ones are nothing
abbrev pub parameters_of : List (List Token) → Parameters
parameters_of ss = listed (this_of ss) (filled (without_this ss))

-- the facts of the tokens in the brackets of a list
abbrev pub parameters_in : List Token → Parameters
parameters_in ts = parameters_of (stretches 0 ts)
