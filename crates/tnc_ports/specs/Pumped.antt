-- What a pump has done when it stops: which octets it read, and what it published of them.
use Rattle.std.specs.Prelude.{◌≡◌, ℕ, ℤ, ◌+◌, ◌^◌, ◌≤◌, List, [], ◌++◌, length, Option, Some}
use Rattle.sound_rate.specs.declared.rate.Rate.{Rate}
use Rattle.sound_rate.specs.Rates.{received}
use Rattle.wav_file.specs.Samples.{samples}
use Rattle.tnc_ports.specs.declared.pumping.PumpEnd.{PumpEnd}
use Rattle.tnc_ports.specs.declared.pumping.PumpEnd.TheVariants.{InputEnd, ReadFault, TooLong}

-- the most octets of an input
abbrev pub most_input : ℕ
most_input = 2 ^ 40

-- where a pump may stop: at the end, at a fault, or at the octet after the last that an input may have
abbrev pub StopsAt : PumpEnd → List ℕ → List ℕ → Type 0
StopsAt InputEnd read rest = (rest ≡ []) × (length read ≤ most_input)
StopsAt ReadFault read rest = length read ≤ most_input
StopsAt TooLong read rest = length read ≡ most_input + 1

-- Of these octets a first part was read and the rest is left, and the modem's samples of what was read are published.
pub record IsPumped (rate : Rate) (octets : List ℕ) (left : Option (List ℕ)) (published : List ℤ) (end : PumpEnd)
    : Type 0 where
  pub read : List ℕ
  pub rest : List ℕ
  pub parts : octets ≡ read ++ rest
  pub left_over : left ≡ Some rest
  pub samples_read : published ≡ received rate (samples read)
  pub stop : StopsAt end read rest
