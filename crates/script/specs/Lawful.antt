-- What holds of the answers of every script reader, at every list of tokens that ends at its one Eof.
use Rattle.std.specs.Prelude.{◌≡◌, ℕ, ◌<◌, true, List, length, is_some, is_ok, None, Ok}
use Rattle.parts.specs.declared.MethodFacts.{MethodFacts}
use Rattle.parts.specs.declared.Part.{Part}
use Rattle.reader.specs.Answers.{Answer, Answers}
use Rattle.reader.specs.Tokens.{ended}
use Rattle.token.specs.declared.Token.{Token}

-- an answer takes tokens before Eof alone, and facts take one at least
pub record Takes {F : Type 0} (a : Answer F) (ts : List Token) : Type 0 where
  pub within : a.count < length ts
  pub some : is_ok a.result ≡ true → 0 < a.count

-- a count of 1 without a rest has a first item
abbrev pub Itemed : MethodFacts → Type 0
Itemed m = m.count ≡ 1 → m.rest ≡ None → is_some m.first_item ≡ true

pub record Lawful (a : Answers) : Type 0 where
  pub parts : (p : Part) (c : ℕ) (ts : List Token) → ended ts ≡ true → Takes (a.part p c ts) ts
  pub methods : (c : ℕ) (ts : List Token) → ended ts ≡ true → Takes (a.method c ts) ts
  pub items : (c : ℕ) (ts : List Token) (m : MethodFacts) → (a.method c ts).result ≡ Ok m → Itemed m
