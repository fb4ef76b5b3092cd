-- Bytes, and the classes of bytes that run together.
use Rattle.std.specs.Prelude.{◌≡◌, ℕ, Bool, not, ◌||◌, ◌==◌}
use Rattle.std.specs.Char.{is_ascii_digit, is_ascii_alphabetic}
use Rattle.std.specs.Str.{byte}

-- the tab
abbrev pub tab : ℕ
tab = 9

-- the line feed, LF
abbrev pub lf : ℕ
lf = 10

-- the carriage return, CR
abbrev pub cr : ℕ
cr = 13

-- the double quote
abbrev pub double_quote : ℕ
double_quote = 34

-- the backslash
abbrev pub backslash : ℕ
backslash = 92

-- CR or LF
abbrev pub is_line_break : ℕ → Bool
is_line_break b = b == cr || b == lf

-- a blank, a tab, CR or LF
abbrev pub is_blank : ℕ → Bool
is_blank b = b == (byte " ") || b == tab || is_line_break b

-- a quote of either sort
abbrev pub is_quote : ℕ → Bool
is_quote b = b == (byte "'") || b == double_quote

-- what a name begins with: a letter, `_` or `$`
abbrev pub starts_name : ℕ → Bool
starts_name b = is_ascii_alphabetic b || b == (byte "_") || b == (byte "$")

-- what a name goes on with: the same, or a digit
abbrev pub in_name : ℕ → Bool
in_name b = starts_name b || is_ascii_digit b

-- what stands on one line
abbrev pub on_line : ℕ → Bool
on_line b = not (is_line_break b)

-- what a string between two quotes q can hold: no q, no backslash, no line break
abbrev pub in_quotes : ℕ → ℕ → Bool
in_quotes q b = not (b == q || b == backslash || is_line_break b)

-- a test answers of each byte what p says of it
abbrev pub Computes : (ℕ → Bool → Type 0) → (ℕ → Bool) → Type 0
Computes answers p = (b : ℕ) (r : Bool) → answers b r → r ≡ p b
