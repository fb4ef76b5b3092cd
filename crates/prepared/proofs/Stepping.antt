-- Tokens taken one by one.
use Rattle.std.proofs.Common.{◌≡◌, ℕ, zero, suc, ◌-◌, ◌<◌, arith}
use Rattle.reader.specs.Scenes.{Scene, past, past_one}

pub past_less : (k : ℕ) (s : Scene) → 0 < k → past (k - 1) (past_one s) ≡ past k s
past_less zero s h = absurd (omega arith)
past_less (suc k) s h = let e : suc k - 1 ≡ k = omega arith in rw e
