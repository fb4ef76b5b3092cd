-- What a reader answers for the parts of a member. Readers of tokens alone have no parts.
use Rattle.std.specs.Prelude.{ℕ, Bool, false, List, Err, Result}
use Rattle.parts.specs.declared.MethodFacts.{MethodFacts}
use Rattle.parts.specs.declared.Part.{Part}
use Rattle.parts.specs.declared.Span.{Span}
use Rattle.token.specs.declared.Token.{Token}

-- facts or a refusal with its place, and how many tokens are taken
pub record Answer (F : Type 0) : Type 0 where
  pub result : Result F Span
  pub count : ℕ

-- for each part, context set (by its bits) and list of tokens one answer; and whether an index signature starts there
pub record Answers : Type 0 where
  pub part : Part → ℕ → List Token → Answer Span
  pub method : ℕ → List Token → Answer MethodFacts
  pub index : ℕ → List Token → Bool

abbrev pub nowhere : Span
nowhere = record { start = 0; end = 0 }

-- every part is refused
abbrev pub no_answers : Answers
no_answers =
    record {
      part = λ p c ts. record { result = Err nowhere; count = 0 };
      method = λ c ts. record { result = Err nowhere; count = 0 };
      index = λ c ts. false;
    }
