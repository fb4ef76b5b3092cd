-- What the first lexeme of a text that is not empty always is.
use Rattle.std.proofs.Common.{◌≡◌, ℕ, ◌+◌, ◌<◌, ◌≤◌, Bool, true, false, cond, not, ◌&&◌, ◌||◌, eqb, ltb, leb, List, [], ◌∷◌, length, get_or, take, drop, is_some, Some, None, codes, Decides, Option, sym, refl, ap, subst, arith, length-drop, eq-eqb, true-eqb}
use Rattle.std.specs.Char.{is_ascii_digit}
use Rattle.std.specs.List.{prefix_len}
use Rattle.std.specs.Str.{byte, bytes_eq}
use Rattle.std.proofs.lemmas.Slice.Eq.{bytes_eq-Decides}
use Rattle.std.proofs.lemmas.List.{get_or_past, length-take-le}
use Rattle.std.proofs.lemmas.List.Sums.{prefix_len-drop_yes, prefix_len-le-length}
use Rattle.std.proofs.lemmas.Bool.{not-true, or_right}
use Rattle.std.proofs.lemmas.Bool.Decides.{nat_tests}
use Rattle.kinds.specs.Modifiers.{word_of}
use Rattle.kinds.specs.declared.modifier_kind.ModifierKind.{ModifierKind}
use Rattle.token.specs.Kinds.{k_eof, k_undetermined, k_skip, k_dot3, k_decimal, k_str, k_private_identifier, is_kind, is_identifier_name, can_be_named, modifier_of, is_modifier_kind}
use Rattle.reader.proofs.Closing.{both}
use Rattle.reader.specs.Sound.{known, spelled}
use Rattle.lexeme.specs.Bytes.{is_blank, is_quote, starts_name, in_name, on_line, in_quotes}
use Rattle.lexeme.specs.Format.{plain, named, skip, undetermined, name_code, holds_break, blanks, word, digits, private_name, string_literal, line_comment, before_close, block_comment, comment, dots, punctuator_kind, lexeme_of, token_of}
use Rattle.lexeme.specs.Words.{keywords, kind_among, word_kind}
use Rattle.lexeme.specs.declared.Lexeme.{Lexeme}

-- at least a byte and at most n, and wherever it is placed a token that the readers may give, which is not Eof
pub record Fitting (n : ℕ) (l : Lexeme) : Type 0 where
  pub some : 0 < l.size
  pub within : l.size ≤ n
  pub more : eqb l.kind.code k_eof ≡ false
  pub knows : (p : ℕ) → known (token_of p l) ≡ true
  pub long : (p : ℕ) → spelled (modifier_of l.kind.code) (token_of p l) ≡ true

at_length : {m n : ℕ} (l : Lexeme) → m ≡ n → Fitting m l → Fitting n l
at_length l e f = subst (λ (k : ℕ). Fitting k l) e f

-- by a test
fitting_if : (n : ℕ) (b : Bool) (x y : Lexeme) → (b ≡ true → Fitting n x) → (b ≡ false → Fitting n y) → Fitting n (cond b x y)
fitting_if n true x y f g = f refl
fitting_if n false x y f g = g refl

-- a modifier is as long as its word
abbrev as_long : Option ModifierKind → ℕ → Bool
as_long None n = true
as_long (Some m) n = eqb n (length (word_of m))

long_spelled : (o : Option ModifierKind) (p : ℕ) (l : Lexeme) → as_long o l.size ≡ true → spelled o (token_of p l) ≡ true
long_spelled None p l h = refl
long_spelled (Some m) p l h = let e : l.size ≡ length (word_of m) = true-eqb _ _ (sym h) in eq-eqb _ _ (ap (λ k. p + k) e)

long_none : (o : Option ModifierKind) (n : ℕ) → is_some o ≡ false → as_long o n ≡ true
long_none None n h = refl
long_none (Some m) n h = grind arith

-- a kind that is known and neither Eof nor a modifier
abbrev is_other : ℕ → Bool
is_other k = not (eqb k k_eof) && is_kind k && not (is_modifier_kind k)

-- of such a kind, with no name code
fitting_plain : (n k m : ℕ) (b : Bool) → 0 < m → m ≤ n → is_other k ≡ true → Fitting n (record { kind = record { code = k }; size = m; line_break = b; name = 0 })
fitting_plain n k m b s w h =
    let p = both (not (eqb k k_eof) && is_kind k) (not (is_modifier_kind k)) h in
    let q = both (not (eqb k k_eof)) (is_kind k) p.0 in
    let o : is_kind k ≡ true = q.1 in
    record {
      some = s;
      within = w;
      more = not-true _ q.0;
      knows = λ _. rw o;
      long = λ j. long_spelled (modifier_of k) j _ (long_none (modifier_of k) m (not-true _ p.1));
    }

name_code_few : (s : List ℕ) → leb (name_code s) 2 ≡ true
unfolding name_code
name_code_few s = few (bytes_eq s (codes "constructor")) (bytes_eq s (codes "prototype"))
  where
    few : (a b : Bool) → leb (cond a 1 (cond b 2 0)) 2 ≡ true
    few true b = refl
    few false true = refl
    few false false = refl

known_named : (k c : ℕ) → is_kind k ≡ true → leb c 2 ≡ true → can_be_named k ≡ true → (is_kind k && leb c 2 && (eqb c 0 || can_be_named k)) ≡ true
known_named k c h f g = let e = or_right (eqb c 0) (can_be_named k) g in rw (h, f, e)

-- the same with the name code of a word
fitting_named : (n k m : ℕ) (s : List ℕ) → 0 < m → m ≤ n → is_other k ≡ true → can_be_named k ≡ true → Fitting n (named k m (name_code s))
fitting_named n k m s some within h c =
    let p = both (not (eqb k k_eof) && is_kind k) (not (is_modifier_kind k)) h in
    let q = both (not (eqb k k_eof)) (is_kind k) p.0 in
    record {
      some = some;
      within = within;
      more = not-true _ q.0;
      knows = λ _. known_named k _ q.1 (name_code_few s) c;
      long = λ j. long_spelled (modifier_of k) j _ (long_none (modifier_of k) m (not-true _ p.1));
    }

-- the rows of the keyword table are names, and modifiers are as long as their words
abbrev fits : ℕ → ℕ → Bool
fits k n = is_identifier_name k && as_long (modifier_of k) n

abbrev all_fit : List (List ℕ × ℕ) → Bool
all_fit [] = true
all_fit (w ∷ ws) = fits w.1 (length w.0) && all_fit ws

fits_row : (w : List ℕ × ℕ) (s : List ℕ) (k : ℕ) (b : Bool) → Decides b (s ≡ w.0) → fits w.1 (length w.0) ≡ true → fits k (length s) ≡ true → fits (cond b w.1 k) (length s) ≡ true
fits_row w s k true d h i = let e : length s ≡ length w.0 = ap length (d.0 refl) in rw e h
fits_row w s k false d h i = i

fits_among : (ws : List (List ℕ × ℕ)) (s : List ℕ) → all_fit ws ≡ true → fits (kind_among ws s) (length s) ≡ true
fits_among [] s h = refl
fits_among (w ∷ ws) s h =
    let p = both (fits w.1 (length w.0)) (all_fit ws) h in
    fits_row w s (kind_among ws s) (bytes_eq s w.0) (bytes_eq-Decides s w.0) p.0 (fits_among ws s p.1)

fits_word : (s : List ℕ) → fits (word_kind s) (length s) ≡ true
unfolding word_kind
fits_word s = fits_among keywords s refl

leading_some : (p : ℕ → Bool) (bs : List ℕ) → 0 < length bs → p (get_or bs 0 0) ≡ true → 0 < prefix_len p bs
leading_some p bs h e = omega (arith, prefix_len-drop_yes p bs 0 0 h e)

-- where a byte other than 0 stands
inside : (bs : List ℕ) (n b : ℕ) → 0 < b → get_or bs n 0 ≡ b → n < length bs
inside bs n b h e = let f : length bs ≤ n → get_or bs n 0 ≡ 0 = get_or_past bs n 0 in grind arith

close_within : (bs : List ℕ) → before_close bs < length bs → before_close bs + 2 ≤ length bs
close_within [] h = absurd (omega arith)
close_within (b ∷ bs) h = let ih = close_within bs in let f = inside bs 0 (byte "/") (omega arith) in grind (arith, nat_tests)

fitting_blanks : (bs : List ℕ) → 0 < length bs → is_blank (get_or bs 0 0) ≡ true → Fitting (length bs) (blanks bs)
fitting_blanks bs h e = fitting_plain _ k_skip _ _ (leading_some is_blank bs h e) (prefix_len-le-length is_blank bs) refl

fitting_digits : (bs : List ℕ) → 0 < length bs → is_ascii_digit (get_or bs 0 0) ≡ true → Fitting (length bs) (digits bs)
fitting_digits bs h e = fitting_plain _ k_decimal _ _ (leading_some is_ascii_digit bs h e) (prefix_len-le-length is_ascii_digit bs) refl

name_more : (k : ℕ) → is_identifier_name k ≡ true → eqb k k_eof ≡ false
name_more k h = grind (arith, nat_tests)

name_kind : (k : ℕ) → is_identifier_name k ≡ true → is_kind k ≡ true
name_kind k h = grind (arith, nat_tests)

name_named : (k : ℕ) → is_identifier_name k ≡ true → can_be_named k ≡ true
name_named k h = rw h

fitting_word : (bs : List ℕ) → 0 < length bs → starts_name (get_or bs 0 0) ≡ true → Fitting (length bs) (word bs)
fitting_word bs h e =
    let n : ℕ = prefix_len in_name bs in
    let b : ℕ = get_or bs 0 0 in
    let s : in_name b ≡ true = rw e in
    let w : n ≤ length bs = prefix_len-le-length in_name bs in
    let l : length (take n bs) ≡ n = length-take-le n bs w in
    let k : ℕ = word_kind (take n bs) in
    let f : fits k n ≡ true = rw l at (fits_word (take n bs)) in
    let p = both (is_identifier_name k) (as_long (modifier_of k) n) f in
    record {
      some = leading_some in_name bs h s;
      within = w;
      more = name_more k p.0;
      knows = λ _. known_named k _ (name_kind k p.0) (name_code_few (take n bs)) (name_named k p.0);
      long = λ j. long_spelled (modifier_of k) j _ p.1;
    }

fitting_string : (q : ℕ) (bs : List ℕ) → 0 < q → Fitting (length bs + 1) (string_literal q bs)
fitting_string q bs h =
    let n : ℕ = prefix_len (in_quotes q) bs in
    let w : n ≤ length bs = prefix_len-le-length (in_quotes q) bs in
    fitting_if _ (eqb (get_or bs n 0) q) (named k_str (n + 2) (name_code (take n bs))) (undetermined (length bs + 1))
    (λ e. let i : n < length bs = inside bs n q h (grind (arith, nat_tests)) in fitting_named _ k_str _ _ (omega arith) (omega arith) refl refl)
    (λ e. fitting_plain _ k_undetermined _ _ (omega arith) (omega arith) refl)

fitting_private : (bs : List ℕ) → Fitting (length bs + 1) (private_name bs)
fitting_private bs =
    let n : ℕ = prefix_len in_name bs in
    let w : n ≤ length bs = prefix_len-le-length in_name bs in
    fitting_if _ (starts_name (get_or bs 0 0)) (named k_private_identifier (n + 1) (name_code (take n bs))) (undetermined 1)
    (λ e. fitting_named _ k_private_identifier _ _ (omega arith) (omega arith) refl refl)
    (λ e. fitting_plain _ k_undetermined _ _ (omega arith) (omega arith) refl)

fitting_line : (bs : List ℕ) → Fitting (length bs + 2) (line_comment bs)
fitting_line bs =
    let w : prefix_len on_line bs ≤ length bs = prefix_len-le-length on_line bs in
    fitting_plain _ k_skip _ _ (omega arith) (omega arith) refl

fitting_block : (bs : List ℕ) → Fitting (length bs + 2) (block_comment bs)
fitting_block bs =
    let n : ℕ = before_close bs in
    fitting_if _ (ltb n (length bs)) (skip (n + 4) (holds_break n bs)) (undetermined (length bs + 2))
    (λ e. let c : n + 2 ≤ length bs = close_within bs (grind (arith, nat_tests)) in fitting_plain _ k_skip _ _ (omega arith) (omega arith) refl)
    (λ e. fitting_plain _ k_undetermined _ _ (omega arith) (omega arith) refl)

after_one : (bs : List ℕ) (b : ℕ) → 0 < b → get_or bs 0 0 ≡ b → length (drop 1 bs) + 2 ≡ length bs + 1
after_one bs b h e = let i : 0 < length bs = inside bs 0 b h e in omega (arith, length-drop 1 bs)

fitting_comment : (bs : List ℕ) → Fitting (length bs + 1) (comment bs)
fitting_comment bs =
    let b : ℕ = get_or bs 0 0 in
    let rest : List ℕ = drop 1 bs in
    fitting_if _ (eqb b (byte "/")) (line_comment rest) _ (λ e. at_length (line_comment rest) (after_one bs (byte "/") (omega arith) (grind (arith, nat_tests))) (fitting_line rest))
    (λ _. fitting_if _ (eqb b (byte "*")) (block_comment rest) (undetermined 1) (λ e. at_length (block_comment rest) (after_one bs (byte "*") (omega arith) (grind (arith, nat_tests))) (fitting_block rest))
    (λ e. fitting_plain _ k_undetermined _ _ (omega arith) (omega arith) refl))

fitting_dots : (bs : List ℕ) → Fitting (length bs + 1) (dots bs)
fitting_dots bs =
    fitting_if _ (eqb (get_or bs 0 0) (byte ".") && eqb (get_or bs 1 0) (byte ".")) (plain k_dot3 3) (undetermined 1)
    (λ e. let i : 1 < length bs = inside bs 1 (byte ".") (omega arith) (grind (arith, nat_tests)) in fitting_plain _ k_dot3 _ _ (omega arith) (omega arith) refl)
    (λ e. fitting_plain _ k_undetermined _ _ (omega arith) (omega arith) refl)

other_if : (b : Bool) (x y : ℕ) → is_other x ≡ true → is_other y ≡ true → is_other (cond b x y) ≡ true
other_if true x y h i = h
other_if false x y h i = i

punctuator_other : (b : ℕ) → is_other (punctuator_kind b) ≡ true
punctuator_other b =
    other_if (eqb b (byte "{")) _ _ refl
    (other_if (eqb b (byte "}")) _ _ refl
    (other_if (eqb b (byte "(")) _ _ refl
    (other_if (eqb b (byte ")")) _ _ refl
    (other_if (eqb b (byte "[")) _ _ refl
    (other_if (eqb b (byte "]")) _ _ refl
    (other_if (eqb b (byte "<")) _ _ refl
    (other_if (eqb b (byte ">")) _ _ refl
    (other_if (eqb b (byte ";")) _ _ refl
    (other_if (eqb b (byte ",")) _ _ refl
    (other_if (eqb b (byte ":")) _ _ refl
    (other_if (eqb b (byte "?")) _ _ refl
    (other_if (eqb b (byte "!")) _ _ refl
    (other_if (eqb b (byte "=")) _ _ refl
    (other_if (eqb b (byte "*")) _ _ refl
    (other_if (eqb b (byte "@")) _ k_undetermined refl refl)))))))))))))))

pub fitting : (bs : List ℕ) → 0 < length bs → Fitting (length bs) (lexeme_of bs)
unfolding lexeme_of
fitting bs h =
    let b : ℕ = get_or bs 0 0 in
    let rest : List ℕ = drop 1 bs in
    let l : length rest + 1 ≡ length bs = omega (arith, length-drop 1 bs) in
    fitting_if _ (eqb (length bs) 0) (plain k_eof 0) _ (λ e. absurd (grind (arith, nat_tests)))
    (λ _. fitting_if _ (is_blank b) (blanks bs) _ (fitting_blanks bs h)
    (λ _. fitting_if _ (starts_name b) (word bs) _ (fitting_word bs h)
    (λ _. fitting_if _ (is_ascii_digit b) (digits bs) _ (fitting_digits bs h)
    (λ _. fitting_if _ (is_quote b) (string_literal b rest) _ (λ e. at_length (string_literal b rest) l (fitting_string b rest (grind (arith, nat_tests))))
    (λ _. fitting_if _ (eqb b (byte "#")) (private_name rest) _ (λ _. at_length (private_name rest) l (fitting_private rest))
    (λ _. fitting_if _ (eqb b (byte "/")) (comment rest) _ (λ _. at_length (comment rest) l (fitting_comment rest))
    (λ _. fitting_if _ (eqb b (byte ".")) (dots rest) _ (λ _. at_length (dots rest) l (fitting_dots rest))
    (λ _. fitting_plain _ (punctuator_kind b) 1 _ (omega arith) (omega arith) (punctuator_other b)))))))))

-- at the text's end Eof, which is empty
pub at_end : lexeme_of [] ≡ plain k_eof 0
unfolding lexeme_of
at_end = refl

pub size_within : (bs : List ℕ) → (lexeme_of bs).size ≤ length bs
unfolding lexeme_of
size_within [] = omega arith
size_within (b ∷ bs) = (fitting (b ∷ bs) (omega arith)).within

-- of any lexeme that is the text's first
pub first_within : (l : Lexeme) (bs : List ℕ) → l ≡ lexeme_of bs → l.size ≤ length bs
first_within l bs e = rw e (size_within bs)
