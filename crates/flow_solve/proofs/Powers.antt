-- Powers of two up to 2^40.
use Rattle.std.proofs.Common.{◌≡◌, ℕ, suc, ◌+◌, ◌^◌, ◌≤◌, arith}
use Rattle.std.proofs.Math.Pow.{pow_mono}
use Rattle.std.proofs.Math.Nat.{pow-suc}
use Rattle.std.proofs.lemmas.Nat.{pow_pos}

pub power_small : (k : ℕ) → k ≤ 40 → 2 ^ k ≤ 2 ^ 40
power_small k l = pow_mono l

pub power_some : (k : ℕ) → 1 ≤ 2 ^ k
power_some k = omega (arith, pow_pos k)

pub power_double : (k : ℕ) → 2 ^ (suc k) ≡ 2 ^ k + 2 ^ k
power_double k = omega (arith, pow-suc 2 k)
