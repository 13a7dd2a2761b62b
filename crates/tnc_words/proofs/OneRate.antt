-- Words ask for one rate.
use Rattle.tnc_words.proofs.Common.{◌≡◌, ℕ, List, Option, Some, None, refl, sym, ◌∙◌, arith, Row, Text}
use Rattle.tnc_words.proofs.Common.{SampleRate, Narrow, samples_a_second}
use Rattle.tnc_words.specs.declared.command.SampleRate.TheVariants.{Wide}
use Rattle.tnc_words.specs.Rates.{HasRate, HasStationRate}
use Rattle.tnc_words.proofs.OneNumber.{one_number}

narrow_is_not : (n : ℕ) → n ≡ 48000 → 9600 ≡ n → ⊥
narrow_is_not n is same = omega arith

-- a rate is known by its number
by_number : (rate other : SampleRate) → samples_a_second rate ≡ samples_a_second other → rate ≡ other
by_number Narrow Narrow h = refl
by_number Narrow Wide h = absurd (narrow_is_not 48000 refl h)
by_number Wide Narrow h = absurd (narrow_is_not 48000 refl (sym h))
by_number Wide Wide h = refl

pub one_rate : (found : List Row) (rate other : SampleRate) → HasRate found rate → HasRate found other → rate ≡ other
one_rate found rate other h k = by_number rate other (one_number _ _ _ _ _ _ h k)

pub one_station_rate : (text checks : Option Text) (rate other : SampleRate) → HasStationRate text checks rate
    → HasStationRate text checks other → rate ≡ other
one_station_rate text None rate other h k = by_number rate other (one_number _ _ _ _ _ _ h k)
one_station_rate text (Some checks) rate other h k = h.0 ∙ sym k.0
