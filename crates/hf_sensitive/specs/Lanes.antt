-- The 27 lanes that a sensitive receiver of short wave has beside one for each offset of a bit: three of each of nine
-- banks, whose tones are 25 Hz apart. Lane 32 + 3 b reads the tones of bank b at each eighth place, from 4 on; lanes
-- 33 + 3 b and 34 + 3 b read them one place before a clock says so that follows them, slowly and fast.
use Rattle.std.specs.Prelude.{ℕ, zero, suc, ◌+◌, ◌-◌, ◌*◌, ◌/◌, ◌%◌, ◌==◌, Bool, ℤ, List, map, filter}
use Rattle.std.specs.List.{range_with_len}
use Rattle.tone_table.specs.declared.tone.Tone.{Tone}
use Rattle.nrzi_bits.specs.Line.{bits_of}
use Rattle.tone_tracking.specs.declared.bit_clock.Pull.TheVariants.{Slow, Fast}
use Rattle.tone_tracking.specs.Clock.{is_reading}
use Rattle.tone_tracking.specs.HeldTracker.{tone_before}
use Rattle.hf_tracking.specs.Heard.{heard}

-- the first lane of a bank
abbrev pub first_lane : ℕ → ℕ
first_lane bank = 32 + 3 * bank

-- the bank of a lane, and which of its three lanes it is
abbrev pub bank_of : ℕ → ℕ
bank_of lane = (lane - 32) / 3

abbrev pub rhythm_of : ℕ → ℕ
rhythm_of lane = (lane - 32) % 3

-- the tones that a lane reads
abbrev pub tones : ℕ → List ℤ → ℕ → Tone
tones lane x = heard (bank_of lane) x

-- how many places before the one that was decided last a lane reads
abbrev pub delay_in : ℕ → ℕ
delay_in zero = 0
delay_in (suc n) = 1

abbrev pub delay_of : ℕ → ℕ
delay_of lane = delay_in (rhythm_of lane)

-- a bit is read when a place is decided
abbrev pub is_read_in : ℕ → (ℕ → Tone) → ℕ → Bool
is_read_in zero tones place = place % 8 == 4
is_read_in (suc zero) tones place = is_reading Slow tones place
is_read_in (suc (suc n)) tones place = is_reading Fast tones place

unfoldable pub is_read_at : List ℤ → ℕ → ℕ → Bool
is_read_at x lane place = is_read_in (rhythm_of lane) (tones lane x) place

-- the tone so many places before the one that a lane reads when a place is decided
abbrev pub tone_back : List ℤ → ℕ → ℕ → ℕ → Tone
tone_back x lane place back = tone_before (tones lane x) (place + 1) (delay_of lane + back)

-- the tone that a lane reads
abbrev pub tone_read : List ℤ → ℕ → ℕ → Tone
tone_read x lane place = tone_back x lane place 0

-- the tones that a lane reads when the first `count` places are decided
unfoldable pub lane_tones : List ℤ → ℕ → ℕ → List Tone
lane_tones x lane count = map (tone_read x lane) (filter (is_read_at x lane) (range_with_len 0 count))

-- and the bits, by the rule of inverted NRZ
abbrev pub lane_bits : List ℤ → ℕ → ℕ → List Bool
lane_bits x lane count = bits_of (lane_tones x lane count)
