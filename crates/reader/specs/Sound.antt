-- The lists of tokens that every reader gives: those that pass questions 2, 3 and 4 of the gate.
use Rattle.std.specs.Prelude.{◌+◌, Bool, true, cond, ◌&&◌, ◌||◌, List, [], ◌∷◌, length, Some, None, Option, ◌==◌, nat_le, nat_lt}
use Rattle.kinds.specs.Modifiers.{word_of}
use Rattle.kinds.specs.declared.modifier_kind.ModifierKind.{ModifierKind}
use Rattle.token.specs.Kinds.{is_kind, can_be_named, modifier_of}
use Rattle.token.specs.declared.Token.{Token}
use Rattle.reader.specs.Tokens.{is_eof, ended}

-- a known kind, and a name code of 0 to 2, above 0 only on a name, a string or a private name
abbrev pub known : Token → Bool
known t = is_kind t.kind.code && nat_le t.name 2 && (t.name == 0 || can_be_named t.kind.code)

-- question 2: every token is known
abbrev pub all_known : List Token → Bool
all_known [] = true
all_known (t ∷ ts) = known t && all_known ts

-- a modifier keyword is as long as its word
abbrev pub spelled : Option ModifierKind → Token → Bool
spelled None t = true
spelled (Some m) t = t.end == t.start + length (word_of m)

-- Eof is empty; any other token ends after its start, a modifier keyword by the length of its word
abbrev pub sized : Token → Bool
sized t = cond (is_eof t) (t.start == t.end) (nat_lt t.start t.end && spelled (modifier_of t.kind.code) t)

-- it does not reach beyond the start of the next one
abbrev pub before : Token → List Token → Bool
before t [] = true
before t (u ∷ us) = cond (is_eof t) true (nat_le t.end u.start)

-- question 4: every token is so sized and placed
abbrev pub all_placed : List Token → Bool
all_placed [] = true
all_placed (t ∷ ts) = sized t && before t ts && all_placed ts

-- questions 2, 3 (Eof last and only there) and 4
abbrev pub sound : List Token → Bool
sound ts = all_known ts && ended ts && all_placed ts
