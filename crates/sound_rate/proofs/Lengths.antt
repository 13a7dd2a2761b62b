-- The modem has at most as many samples as come.
use Rattle.std.proofs.Common.{◌≡◌, ◌≤◌, ◌+◌, ◌-◌, ◌*◌, ◌/◌, ℕ, List, length, arith, ◌∙◌}
use Rattle.std.specs.Prelude.{ℤ}
use Rattle.std.proofs.lemmas.List.FromFn.{length-map-range_with_len}
use Rattle.resampler.specs.Filtered.{filtered_at}
use Rattle.sound_rate.specs.declared.rate.Rate.{Rate}
use Rattle.sound_rate.specs.declared.rate.Rate.TheVariants.{Narrow, Wide}
use Rattle.sound_rate.specs.Rates.{received}

pub received_few : (rate : Rate) (x : List ℤ) → length (received rate x) ≤ length x
received_few Narrow x = omega arith
received_few Wide x =
    let size = length-map-range_with_len (λ k. filtered_at x (5 * k)) 0 ((length x + 4) / 5) in omega (arith, size)
