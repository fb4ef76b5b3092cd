use Rattle.std.proofs.Common.{◌≡◌, rules}
use Rattle.lexeme.specs.Format.{lexeme_of}
use Rattle.lexeme.proofs.Fitting.{first_within}
use Rattle.lexeme.proofs.first.Goals as goal

pub returns-then-is_blank-clause-within : goal.returns-then-is_blank-clause-within
unfolding lexeme_of
returns-then-is_blank-clause-within c =
    let e : c.blanks.result ≡ lexeme_of c.args.text.now = search rules in first_within _ _ e

pub returns-then-is_ascii_digit-clause-within : goal.returns-then-is_ascii_digit-clause-within
unfolding lexeme_of
returns-then-is_ascii_digit-clause-within c =
    let e : c.digits.result ≡ lexeme_of c.args.text.now = search rules in first_within _ _ e

pub returns-then-b-eq47-clause-within : goal.returns-then-b-eq47-clause-within
unfolding lexeme_of
returns-then-b-eq47-clause-within c =
    let e : c.comment.result ≡ lexeme_of c.args.text.now = search rules in first_within _ _ e
