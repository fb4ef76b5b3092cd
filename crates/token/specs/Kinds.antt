-- The kinds of tokens by their codes, and what is asked of a kind. There are 169 codes, 0 to 168, in the order of
-- oxc_parser's `Kind`; docs/formats.md lists them all, and these are the ones that a rule names.
use Rattle.std.specs.Prelude.{ℕ, Bool, false, cond, ◌&&◌, ◌||◌, List, [], ◌∷◌, is_some, Some, None, Option, ◌==◌, nat_le}
use Rattle.kinds.specs.declared.modifier_kind.ModifierKind.{ModifierKind}
use Rattle.kinds.specs.declared.modifier_kind.ModifierKind.TheVariants.{Declare, Private, Protected, Public, Static, Readonly, Abstract, Override, Async, Const, In, Out, Default, Accessor, Export}

abbrev pub k_eof : ℕ
k_eof = 0

abbrev pub k_undetermined : ℕ
k_undetermined = 1

abbrev pub k_skip : ℕ
k_skip = 2

abbrev pub k_ident : ℕ
k_ident = 4

abbrev pub k_const : ℕ
k_const = 10

abbrev pub k_default : ℕ
k_default = 13

abbrev pub k_export : ℕ
k_export = 18

abbrev pub k_in : ℕ
k_in = 25

abbrev pub k_this : ℕ
k_this = 31

abbrev pub k_async : ℕ
k_async = 39

abbrev pub k_get : ℕ
k_get = 41

abbrev pub k_set : ℕ
k_set = 44

abbrev pub k_accessor : ℕ
k_accessor = 46

abbrev pub k_abstract : ℕ
k_abstract = 49

abbrev pub k_constructor : ℕ
k_constructor = 55

abbrev pub k_declare : ℕ
k_declare = 56

abbrev pub k_out : ℕ
k_out = 64

abbrev pub k_readonly : ℕ
k_readonly = 65

abbrev pub k_override : ℕ
k_override = 79

abbrev pub k_private : ℕ
k_private = 84

abbrev pub k_protected : ℕ
k_protected = 85

abbrev pub k_public : ℕ
k_public = 86

abbrev pub k_static : ℕ
k_static = 87

abbrev pub k_null : ℕ
k_null = 91

abbrev pub k_bang : ℕ
k_bang = 96

abbrev pub k_colon : ℕ
k_colon = 99

abbrev pub k_comma : ℕ
k_comma = 100

abbrev pub k_dot3 : ℕ
k_dot3 = 102

abbrev pub k_eq : ℕ
k_eq = 103

abbrev pub k_langle : ℕ
k_langle = 107

abbrev pub k_lbrack : ℕ
k_lbrack = 108

abbrev pub k_lcurly : ℕ
k_lcurly = 109

abbrev pub k_lparen : ℕ
k_lparen = 110

abbrev pub k_question : ℕ
k_question = 126

abbrev pub k_rangle : ℕ
k_rangle = 130

abbrev pub k_rbrack : ℕ
k_rbrack = 131

abbrev pub k_rcurly : ℕ
k_rcurly = 132

abbrev pub k_rparen : ℕ
k_rparen = 133

abbrev pub k_semicolon : ℕ
k_semicolon = 134

abbrev pub k_star : ℕ
k_star = 143

abbrev pub k_decimal : ℕ
k_decimal = 149

abbrev pub k_float : ℕ
k_float = 150

abbrev pub k_binary : ℕ
k_binary = 151

abbrev pub k_octal : ℕ
k_octal = 152

abbrev pub k_hex : ℕ
k_hex = 153

abbrev pub k_positive_exponential : ℕ
k_positive_exponential = 154

abbrev pub k_negative_exponential : ℕ
k_negative_exponential = 155

abbrev pub k_decimal_big_int : ℕ
k_decimal_big_int = 156

abbrev pub k_binary_big_int : ℕ
k_binary_big_int = 157

abbrev pub k_octal_big_int : ℕ
k_octal_big_int = 158

abbrev pub k_hex_big_int : ℕ
k_hex_big_int = 159

abbrev pub k_str : ℕ
k_str = 160

abbrev pub k_private_identifier : ℕ
k_private_identifier = 166

abbrev pub k_at : ℕ
k_at = 168

-- whether a kind is one of these
abbrev pub among : ℕ → List ℕ → Bool
among k [] = false
among k (x ∷ xs) = k == x || among k xs

-- one of the 169 codes
abbrev pub is_kind : ℕ → Bool
is_kind k = nat_le k k_at

-- IdentifierName: a plain name or a keyword, which have the codes from Await to Null
abbrev pub is_identifier_name : ℕ → Bool
is_identifier_name k = nat_le k_ident k && nat_le k k_null

-- NumericLiteral, in each of its notations
abbrev pub is_number : ℕ → Bool
is_number k = among k (k_decimal ∷ k_float ∷ k_binary ∷ k_octal ∷ k_hex ∷ k_positive_exponential ∷ k_negative_exponential ∷ k_decimal_big_int ∷ k_binary_big_int ∷ k_octal_big_int ∷ k_hex_big_int ∷ [])

-- LiteralPropertyName: IdentifierName, StringLiteral or NumericLiteral
abbrev pub is_literal_property_name : ℕ → Bool
is_literal_property_name k = is_identifier_name k || k == k_str || is_number k

-- the same, or a private name
abbrev pub is_identifier_or_keyword : ℕ → Bool
is_identifier_or_keyword k = is_literal_property_name k || k == k_private_identifier

-- the modifier that a keyword is
abbrev pub modifier_of : ℕ → Option ModifierKind
modifier_of k =
    cond (k == k_abstract) (Some Abstract)
    (cond (k == k_accessor) (Some Accessor)
    (cond (k == k_async) (Some Async)
    (cond (k == k_const) (Some Const)
    (cond (k == k_declare) (Some Declare)
    (cond (k == k_default) (Some Default)
    (cond (k == k_export) (Some Export)
    (cond (k == k_in) (Some In)
    (cond (k == k_out) (Some Out)
    (cond (k == k_override) (Some Override)
    (cond (k == k_private) (Some Private)
    (cond (k == k_protected) (Some Protected)
    (cond (k == k_public) (Some Public)
    (cond (k == k_readonly) (Some Readonly)
    (cond (k == k_static) (Some Static)
    None))))))))))))))

abbrev pub is_modifier_kind : ℕ → Bool
is_modifier_kind k = is_some (modifier_of k)

-- what can follow a modifier: a name of any sort, `[`, `{`, `*` or `...`
abbrev pub can_follow_modifier : ℕ → Bool
can_follow_modifier k = among k (k_private_identifier ∷ k_lbrack ∷ k_lcurly ∷ k_star ∷ k_dot3 ∷ []) || is_identifier_or_keyword k

-- what can follow `get` or `set`: `[`, a private name or a LiteralPropertyName
abbrev pub can_follow_get_or_set : ℕ → Bool
can_follow_get_or_set k = k == k_lbrack || k == k_private_identifier || is_literal_property_name k

-- names, strings and private names can carry a name code
abbrev pub can_be_named : ℕ → Bool
can_be_named k = is_identifier_name k || k == k_str || k == k_private_identifier
