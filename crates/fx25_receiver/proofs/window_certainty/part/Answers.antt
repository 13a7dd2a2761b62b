use Rattle.fx25_receiver.proofs.Common.{◌+◌, ◌*◌, ◌/◌, ◌<◌, ℕ, arith}
use Rattle.std.proofs.Common.{◌-◌}
use Rattle.std.proofs.Math.Nat.{div-lt_iff_lt-mul}

-- a part of a number, in 65536ths, is less than 65536
part_small : (louder quieter : ℕ) → (louder - quieter) / (louder / 65536 + 1) < 65536
part_small louder quieter =
    let divisor : ℕ = louder / 65536 + 1 in
    let positive : 0 < divisor = omega arith in
    let below : louder - quieter < 65536 * divisor = omega arith in
    (div-lt_iff_lt-mul positive).1 below
