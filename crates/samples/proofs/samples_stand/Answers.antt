use mathlib.Core.Path.{refl}
use Rattle.lexeme.specs.Format.{lexeme_of}
use Rattle.lexeme.specs.Words.{word_kind}
use Rattle.samples.specs.Samples.{SamplesStand}
use Rattle.verdicts.specs.Orders.{order_of}
use Rattle.verdicts.specs.Verdicts.{forbids, rule_of, verdict_of}
use Rattle.samples.proofs.samples_stand.Goals as goal

-- The checker computes each of them.
all : SamplesStand
unfolding lexeme_of word_kind order_of verdict_of rule_of forbids
all =
    record {
      none = record { keeps = refl; lists = refl; earns = refl };
      block = record { keeps = refl; lists = refl; earns = refl };
      two = record { keeps = refl; lists = refl; earns = refl };
      lowest = record { keeps = refl; lists = refl; earns = refl };
      repeated = record { keeps = refl; lists = refl; earns = refl };
      override_first = record { keeps = refl; lists = refl; earns = refl };
      declare_first = record { keeps = refl; lists = refl; earns = refl };
      twice = record { keeps = refl; lists = refl; earns = refl };
      accessibilities = record { keeps = refl; lists = refl; earns = refl };
    }

pub returns : goal.returns
returns c = record { stands = refl; samples = all }
