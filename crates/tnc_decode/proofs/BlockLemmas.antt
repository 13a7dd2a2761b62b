-- How long a block at 48,000 samples a second may be, if threads share it, and if one thread hears it.
use Rattle.tnc_decode.proofs.Common.{◌≡◌, ◌≤◌, ℕ, true, false, refl, arith, if◌then◌else◌}
use Rattle.std.proofs.Common.{Bool}

pub few_shared : (threads : Bool) (count : ℕ) → count ≤ (if threads then 32768 else 2048) → count ≤ 32768
few_shared true count few = few
few_shared false count few = omega (arith, few)

pub few_alone : (threads : Bool) (count : ℕ) → count ≤ (if threads then 32768 else 2048)
    → (threads ≡ true → count ≤ 2048) → count ≤ 2048
few_alone true count few short = short refl
few_alone false count few short = few
