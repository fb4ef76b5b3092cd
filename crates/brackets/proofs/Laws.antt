-- The laws of every script reader, for the bracket format.
use Rattle.std.proofs.Common.{◌≡◌, ℕ, ◌+◌, ◌-◌, ◌^◌, ◌<◌, Bool, true, false, not, eqb, List, [], ◌∷◌, length, is_some, is_ok, Some, None, Ok, Err, Option, Result, refl, ap, subst, arith}
use native.Mathlib.Nat.{min-le_left}
use Rattle.std.proofs.lemmas.Bool.Decides.{nat_tests}
use Rattle.std.specs.Option.{option_map}
use Rattle.parts.specs.declared.Part.{Part}
use Rattle.parts.specs.declared.Part.TheVariants.{Block, Decorator, Expression, IndexRest, TypeAnnotation}
use Rattle.parts.specs.declared.Span.{Span}
use Rattle.reader.specs.Tokens.{ahead, ended, head, is_eof}
use Rattle.reader.proofs.Taking.{ended_some}
use Rattle.script.specs.Lawful.{Itemed, Lawful}
use Rattle.token.specs.Kinds.{is_identifier_name, k_at, k_colon, k_eof, k_langle, k_lbrack, k_lcurly, k_lparen, k_rangle, k_semicolon}
use Rattle.token.specs.declared.Token.{Token}
use Rattle.brackets.specs.Depth.{at_closer, capped, closes, deeper, inside}
use Rattle.brackets.specs.Format.{annotation_of, body_of, bracket_answers, decorator_of, ends_expression, ends_later, expression_told, goes_on, group_of, index_told, inserts_before, method_of, method_told, parameter_list_of, part_of, semicolon_of, type_of, type_parameters_of}
use Rattle.brackets.specs.Parameters.{filled, first, item_of, items_of, listed, one_if, rest_of, span_of, stretches, this_of, without_this}
use Rattle.brackets.specs.Readings.{Reading, and_then, give, name, optional, proceed, span_over, spanned, taking, token}
use Rattle.brackets.specs.declared.parameters.Item.{Item}
use Rattle.brackets.specs.declared.parameters.Parameters.{Parameters}
use Rattle.brackets.proofs.Bounds.{TakesSome, Within, more_than_one, takes_first, takes_later, takes_one, takes_spanned, within_give, within_if, within_one, within_spanned, within_then, within_up_to}

not_eof : (k : ℕ) → eqb k k_eof ≡ false → (x : ℕ) → eqb x k ≡ true → eqb x k_eof ≡ false
not_eof k h x e = grind (arith, nat_tests)

name_not_eof : (k : ℕ) → is_identifier_name k ≡ true → eqb k k_eof ≡ false
name_not_eof k h = grind (arith, nat_tests)

closer_not_eof : (k : ℕ) → closes k ≡ true → eqb k k_eof ≡ false
closer_not_eof k h = grind (arith, nat_tests)

within_token : (k : ℕ) → eqb k k_eof ≡ false → Within (token k)
within_token k h = within_one (λ x. eqb x k) (not_eof k h)

within_name : Within name
within_name = within_one is_identifier_name name_not_eof

within_inside : Within (taking inside)
within_inside = record { bound = within_up_to at_closer (λ d t e. rw e) 0 }

pub decorator_within : Within decorator_of
decorator_within = within_then (within_token k_at refl) (λ sign. within_then within_name (λ word. within_give _))

pub decorator_takes : TakesSome decorator_of
decorator_takes = takes_first _ (takes_one (λ x. eqb x k_at))

pub type_within : Within type_of
type_within = within_then (within_token k_colon refl) (λ sign. within_then within_name (λ word. within_give _))

pub type_takes : TakesSome type_of
type_takes = takes_first _ (takes_one (λ x. eqb x k_colon))

pub annotation_within : Within annotation_of
annotation_within = within_then type_within (λ type. within_give _)

pub annotation_takes : TakesSome annotation_of
annotation_takes = takes_first _ type_takes

pub group_within : (k : ℕ) → eqb k k_eof ≡ false → Within (group_of k)
group_within k h =
    within_then (within_token k h) (λ opener. within_then within_inside (λ _. within_then (within_one closes closer_not_eof) (λ closer. within_give _)))

pub group_takes : (k : ℕ) → TakesSome (group_of k)
group_takes k = takes_first _ (takes_one (λ x. eqb x k))

begins : (k : ℕ) → not (ends_expression 0 k) ≡ true → eqb k k_eof ≡ false
begins k h = grind (arith, nat_tests)

within_on : (t : Token) → Within (taking (goes_on t))
within_on t = record { bound = within_up_to ends_later (λ d u e. rw e) (deeper 0 t.kind.code) }

pub expression_within : Within expression_told
expression_within = within_then (within_one (λ k. not (ends_expression 0 k)) begins) (λ t. within_then (within_on t) (λ _. within_give _))

pub expression_takes : TakesSome expression_told
expression_takes = takes_first _ (takes_one (λ k. not (ends_expression 0 k)))

pub semicolon_within : Within semicolon_of
semicolon_within = record { bound = λ ts h. by ts h (eqb (head ts).kind.code k_semicolon) (inserts_before (head ts)) refl refl }
  where
    by : (ts : List Token) → ended ts ≡ true → (a b : Bool) → eqb (head ts).kind.code k_semicolon ≡ a → inserts_before (head ts) ≡ b → (semicolon_of ts).count < length ts
    by ts h true b e f = let n : is_eof (head ts) ≡ false = grind (arith, nat_tests) in rw e (more_than_one ts h n)
    by ts h false true e f = rw (e, f) (ended_some ts h)
    by ts h false false e f = rw (e, f) (ended_some ts h)

pub index_within : Within index_told
index_within = within_then (group_within k_lbrack refl) (λ _. within_then type_within (λ _. within_then semicolon_within (λ _. within_give _)))

pub index_takes : TakesSome index_told
index_takes = takes_first _ (group_takes k_lbrack)

list_within : Within parameter_list_of
list_within =
    within_then (within_token k_lparen refl) (λ opener. within_then within_inside (λ _. within_then (within_one closes closer_not_eof) (λ closer. within_give _)))

list_takes : TakesSome parameter_list_of
list_takes = takes_first _ (takes_one (λ x. eqb x k_lparen))

optional_within : {F : Type 0} (k : ℕ) {f : Reading F} → Within f → Within (optional k f)
optional_within k a = within_if (λ ts. eqb (head ts).kind.code k) (within_then a (λ x. within_give _)) (within_give _)

type_parameters_within : Within type_parameters_of
type_parameters_within =
    within_then (within_token k_langle refl) (λ left. within_then within_name (λ _. within_then (within_token k_rangle refl) (λ right. within_give _)))

body_within : Within body_of
body_within =
    within_if (λ ts. eqb (head ts).kind.code k_lcurly) (within_then (group_within k_lcurly refl) (λ block. within_give _)) (within_then semicolon_within (λ _. within_give _))

pub method_within : Within method_told
method_within =
    within_then (optional_within k_langle type_parameters_within) (λ generics. within_then list_within (λ list. within_then (optional_within k_colon type_within) (λ type. within_then body_within (λ body. within_give _))))

pub method_takes : TakesSome method_told
method_takes = takes_later _ (λ generics. takes_first _ list_takes)

part_within : (p : Part) → Within (part_of p)
part_within Decorator = decorator_within
part_within Expression = within_spanned expression_within
part_within TypeAnnotation = annotation_within
part_within Block = group_within k_lcurly refl
part_within IndexRest = within_spanned index_within

part_takes : (p : Part) → TakesSome (part_of p)
part_takes Decorator = decorator_takes
part_takes Expression = takes_spanned expression_takes
part_takes TypeAnnotation = annotation_takes
part_takes Block = group_takes k_lcurly
part_takes IndexRest = takes_spanned index_takes

-- what holds of a reading's facts
record Tells {F : Type 0} (P : F → Type 0) (f : Reading F) : Type 0 where
  facts : (ts : List Token) (x : F) → (f ts).result ≡ Ok x → P x

no_facts : {F : Type 0} (P : Type 0) (e : Span) (x : F) → ◌≡◌ {A = Result F Span} (Err e) (Ok x) → P
no_facts P e x h = let z : ◌≡◌ {A = Bool} false true = ap is_ok h in absurd (grind arith)

anything : {F : Type 0} {f : Reading F} → Tells (λ _. Unit {0}) f
anything = record { facts = λ _ _ _. tt }

module _ {F G : Type 0} {f : Reading F} {g : F → Reading G} {Q : F → Type 0} {P : G → Type 0} where
  tells_then : Tells Q f → ((x : F) → Q x → Tells P (g x)) → Tells P (and_then f g)
  unfolding and_then
  tells_then a b = record { facts = λ ts y. by ts y (f ts).result refl }
    where
      by : (ts : List Token) (y : G) (r : Result F Span) → (f ts).result ≡ r → (proceed r (f ts).count (λ x. g x (ahead (f ts).count ts))).result ≡ Ok y → P y
      by ts y (Ok x) e h = (b x (a.facts ts x e)).facts (ahead (f ts).count ts) y h
      by ts y (Err e) p h = no_facts (P y) e y h

tells_give : {F : Type 0} {P : F → Type 0} (x : F) → P x → Tells P (give x)
tells_give {P = P} x h = record { facts = λ ts y e. let q : x ≡ y = cc in subst P q h }

tells_spanned : {F : Type 0} {f : Reading (Span → F)} {P : F → Type 0} → Tells (λ told. (span : Span) → P (told span)) f → Tells P (spanned f)
unfolding spanned
tells_spanned {F} {f} {P} a = record { facts = λ ts y. by ts y (f ts).result refl }
  where
    by : (ts : List Token) (y : F) (r : Result (Span → F) Span) → (f ts).result ≡ r → (proceed r (f ts).count (λ x. give (x (span_over (f ts).count ts)) ts)).result ≡ Ok y → P y
    by ts y (Ok x) e h = let q : x (span_over (f ts).count ts) ≡ y = cc in subst P q (a.facts ts x e (span_over (f ts).count ts))
    by ts y (Err e) p h = no_facts (P y) e y h

-- one parameter that is no rest is the first item
abbrev FirstItem : Parameters → Type 0
FirstItem p = p.count ≡ 1 → p.rest ≡ None → is_some p.first_item ≡ true

capped_one : (n : ℕ) → capped n ≡ 1 → 0 < n
capped_one n h = omega (arith, min-le_left n (2 ^ 32 - 1))

first_item_lem : (this : Option (List Token)) (ss : List (List Token)) → FirstItem (listed this ss)
first_item_lem this ss = by (items_of ss) (rest_of ss)
  where
    by : (is : List (List Token)) (r : Option (List Token)) → capped (length is + one_if r) ≡ 1 → span_of r ≡ None → is_some (item_of (first is)) ≡ true
    by (i ∷ is) r h e = refl
    by [] None h e = absurd (omega (arith, capped_one (length {A = List Token} [] + 0) h))
    by [] (Some s) h e = let z : ◌≡◌ {A = ℕ} 0 1 = cc in absurd (omega arith)

list_first : Tells (λ l. FirstItem l.parameters) parameter_list_of
list_first =
    tells_then anything (λ opener _. tells_then anything (λ between _. tells_then anything (λ closer _. tells_give _ (first_item_lem (this_of (stretches 0 between)) (filled (without_this (stretches 0 between)))))))

span_there : (o : Option Item) → is_some o ≡ true → is_some (option_map (λ item. item.span) o) ≡ true
span_there None h = h
span_there (Some item) h = refl

method_first : Tells Itemed method_of
method_first =
    tells_spanned (tells_then anything (λ generics _. tells_then list_first (λ list h. tells_then anything (λ type _. tells_then anything (λ body _. tells_give _ (λ span e f. span_there list.parameters.first_item (h e f)))))))

pub lawful : Lawful bracket_answers
lawful =
    record {
      parts = λ p c ts h. record { within = (part_within p).bound ts h; some = (part_takes p).some ts };
      methods = λ c ts h. record { within = (within_spanned method_within).bound ts h; some = (takes_spanned method_takes).some ts };
      items = λ c ts m. method_first.facts ts m;
    }
