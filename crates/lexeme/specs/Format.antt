-- The lexical format: the first lexeme of a text, by its bytes. Each sort of token has one definition, which
-- `lexeme_of` chooses by the first byte.
use Rattle.std.specs.Prelude.{ℕ, ◌+◌, Bool, false, cond, ◌&&◌, List, [], ◌∷◌, length, take, drop, codes, ◌==◌, nat_lt, slice_index}
use Rattle.std.specs.Char.{is_ascii_digit}
use Rattle.std.specs.List.{prefix_len}
use Rattle.std.specs.Str.{byte, bytes_eq}
use Rattle.token.specs.Kinds.{k_eof, k_undetermined, k_skip, k_bang, k_colon, k_comma, k_dot3, k_eq, k_langle, k_lbrack, k_lcurly, k_lparen, k_question, k_rangle, k_rbrack, k_rcurly, k_rparen, k_semicolon, k_star, k_decimal, k_str, k_private_identifier, k_at}
use Rattle.token.specs.declared.Token.{Token}
use Rattle.lexeme.specs.Bytes.{is_blank, is_quote, starts_name, in_name, on_line, in_quotes}
use Rattle.lexeme.specs.Words.{word_kind}
use Rattle.lexeme.specs.declared.Lexeme.{Lexeme}

-- of a kind and size, with no line break and no name code
abbrev pub plain : ℕ → ℕ → Lexeme
plain k n = record { kind = record { code = k }; size = n; line_break = false; name = 0 }

-- the same with a name code
abbrev pub named : ℕ → ℕ → ℕ → Lexeme
named k n c = record { kind = record { code = k }; size = n; line_break = false; name = c }

-- a Skip, which alone can hold a line break
abbrev pub skip : ℕ → Bool → Lexeme
skip n b = record { kind = record { code = k_skip }; size = n; line_break = b; name = 0 }

-- so many bytes that begin no token
abbrev pub undetermined : ℕ → Lexeme
undetermined n = plain k_undetermined n

-- the name code: 1 for `constructor`, 2 for `prototype`, else 0
unfoldable pub name_code : List ℕ → ℕ
name_code s = cond (bytes_eq s (codes "constructor")) 1 (cond (bytes_eq s (codes "prototype")) 2 0)

-- whether CR or LF stands among the first n bytes
abbrev pub holds_break : ℕ → List ℕ → Bool
holds_break n bs = nat_lt (prefix_len on_line bs) n

-- the longest run of blanks, tabs, CR and LF
abbrev pub blanks : List ℕ → Lexeme
blanks bs =
    let n : ℕ = prefix_len is_blank bs in
    skip n (holds_break n bs)

-- a word: a keyword or a plain name, as long as letters, digits, `_` and `$` go on
abbrev pub word : List ℕ → Lexeme
word bs =
    let n : ℕ = prefix_len in_name bs in
    named (word_kind (take n bs)) n (name_code (take n bs))

-- the longest run of digits
abbrev pub digits : List ℕ → Lexeme
digits bs = plain k_decimal (prefix_len is_ascii_digit bs)

-- after `#`: a private name where a name begins, else the `#` is undetermined
abbrev pub private_name : List ℕ → Lexeme
private_name bs =
    let n : ℕ = prefix_len in_name bs in
    cond (starts_name (slice_index bs 0)) (named k_private_identifier (n + 1) (name_code (take n bs))) (undetermined 1)

-- after a quote q: a string where q comes before any backslash, CR or LF, else undetermined up to the text's end
abbrev pub string_literal : ℕ → List ℕ → Lexeme
string_literal q bs =
    let n : ℕ = prefix_len (in_quotes q) bs in
    cond (slice_index bs n == q) (named k_str (n + 2) (name_code (take n bs))) (undetermined (length bs + 1))

-- after `//`: a comment up to CR, LF or the text's end, without them
abbrev pub line_comment : List ℕ → Lexeme
line_comment bs = skip (prefix_len on_line bs + 2) false

-- how many bytes stand before the first `*/`; all of them where there is none
abbrev pub before_close : List ℕ → ℕ
before_close [] = 0
before_close (b ∷ bs) = cond (b == (byte "*") && slice_index bs 0 == (byte "/")) 0 (1 + before_close bs)

-- after `/*`: a comment up to the first `*/` with it, or undetermined up to the text's end
abbrev pub block_comment : List ℕ → Lexeme
block_comment bs =
    let n : ℕ = before_close bs in
    cond (nat_lt n (length bs)) (skip (n + 4) (holds_break n bs)) (undetermined (length bs + 2))

-- after `/`: a comment by the byte that follows, else the `/` is undetermined
abbrev pub comment : List ℕ → Lexeme
comment bs =
    let b : ℕ = slice_index bs 0 in
    cond (b == (byte "/")) (line_comment (drop 1 bs))
    (cond (b == (byte "*")) (block_comment (drop 1 bs))
    (undetermined 1))

-- after `.`: the rest of `...`, else the `.` is undetermined
abbrev pub dots : List ℕ → Lexeme
dots bs = cond (slice_index bs 0 == (byte ".") && slice_index bs 1 == (byte ".")) (plain k_dot3 3) (undetermined 1)

-- the kind of a byte that is a token by itself; any other is undetermined
abbrev pub punctuator_kind : ℕ → ℕ
punctuator_kind b =
    cond (b == (byte "{")) k_lcurly
    (cond (b == (byte "}")) k_rcurly
    (cond (b == (byte "(")) k_lparen
    (cond (b == (byte ")")) k_rparen
    (cond (b == (byte "[")) k_lbrack
    (cond (b == (byte "]")) k_rbrack
    (cond (b == (byte "<")) k_langle
    (cond (b == (byte ">")) k_rangle
    (cond (b == (byte ";")) k_semicolon
    (cond (b == (byte ",")) k_comma
    (cond (b == (byte ":")) k_colon
    (cond (b == (byte "?")) k_question
    (cond (b == (byte "!")) k_bang
    (cond (b == (byte "=")) k_eq
    (cond (b == (byte "*")) k_star
    (cond (b == (byte "@")) k_at
    k_undetermined)))))))))))))))

-- the first lexeme of a text, by its first byte; at the text's end Eof, which is empty
unfoldable pub lexeme_of : List ℕ → Lexeme
lexeme_of bs =
    let b : ℕ = slice_index bs 0 in
    let rest : List ℕ = drop 1 bs in
    cond (length bs == 0) (plain k_eof 0)
    (cond (is_blank b) (blanks bs)
    (cond (starts_name b) (word bs)
    (cond (is_ascii_digit b) (digits bs)
    (cond (is_quote b) (string_literal b rest)
    (cond (b == (byte "#")) (private_name rest)
    (cond (b == (byte "/")) (comment rest)
    (cond (b == (byte ".")) (dots rest)
    (plain (punctuator_kind b) 1))))))))

-- the token that a lexeme is where it begins at p
abbrev pub token_of : ℕ → Lexeme → Token
token_of p l = record { kind = l.kind; start = p; end = p + l.size; line_break = l.line_break; name = l.name }
