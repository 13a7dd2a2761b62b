-- The eighteen lanes that a sensitive receiver has beside one for each offset of a bit. They hear samples without their
-- mean, and each reads its tones from one of the three lists that are decided of these.
-- Lanes 8 to 15 read the far list at each eighth place, from 0 to 7 on. The others read where a clock says, or one or
-- two places before: lanes 16 to 18 the near list by a slow clock, lanes 19 to 21 the far list by a slow clock, each 0,
-- 1 and 2 places before, lane 22 the near list by a fast clock, one place before, and lanes 23 to 25 the list of windows
-- that are decided alone, by a slow clock, 0, 1 and 2 places before.
use Rattle.std.specs.Prelude.{ℕ, ◌+◌, ◌-◌, ◌%◌, ◌==◌, nat_lt, if◌then◌else◌, Bool, ℤ, List, map, filter}
use Rattle.std.specs.List.{range_with_len}
use Rattle.tone_table.specs.declared.tone.Tone.{Tone}
use Rattle.nrzi_bits.specs.Line.{bits_of}
use Rattle.tone_tracking.specs.declared.bit_clock.Pull.TheVariants.{Slow, Fast}
use Rattle.tone_tracking.specs.declared.reach.Reach.{Reach}
use Rattle.tone_tracking.specs.declared.reach.Reach.TheVariants.{Alone, Near, Far}
use Rattle.tone_tracking.specs.Clock.{is_reading}
use Rattle.tone_tracking.specs.Heard.{heard, places_in}
use Rattle.tone_tracking.specs.HeldTracker.{tone_before}
use Rattle.tone_tracking.specs.WithoutMean.{without_mean}

-- the tone at a place of samples, which is decided without their mean
abbrev pub tones : Reach → List ℤ → ℕ → Tone
tones reach x = heard reach (without_mean x)

-- how many places of so many samples have a tone: fifteen samples past a place are wanted for the mean
abbrev pub added_places : ℕ → ℕ
added_places count = places_in (count - 15)

-- the list that a lane reads
abbrev pub list_of : ℕ → Reach
list_of lane =
    if nat_lt lane 16 then Far
    else if nat_lt lane 19 then Near
    else if nat_lt lane 22 then Far
    else if nat_lt lane 23 then Near
    else Alone

-- how many places before the one that was decided last a lane reads
abbrev pub delay_of : ℕ → ℕ
delay_of lane =
    if nat_lt lane 16 then 0
    else if nat_lt lane 19 then lane - 16
    else if nat_lt lane 22 then lane - 19
    else if nat_lt lane 23 then 1
    else lane - 23

-- a place, and at which clocks a bit is read there
pub record Readings : Type 0 where
  pub place : ℕ
  pub slow_near : Bool
  pub slow_far : Bool
  pub fast_near : Bool
  pub slow_alone : Bool

-- a lane reads a bit when a place is decided
abbrev pub is_read_by : ℕ → Readings → Bool
is_read_by lane readings =
    if nat_lt lane 16 then readings.place % 8 == lane - 8
    else if nat_lt lane 19 then readings.slow_near
    else if nat_lt lane 22 then readings.slow_far
    else if nat_lt lane 23 then readings.fast_near
    else readings.slow_alone

-- at which places of samples the clocks say that a bit is read
unfoldable pub readings_at : List ℤ → ℕ → Readings
readings_at x place = record {
  place = place;
  slow_near = is_reading Slow (tones Near x) place;
  slow_far = is_reading Slow (tones Far x) place;
  fast_near = is_reading Fast (tones Near x) place;
  slow_alone = is_reading Slow (tones Alone x) place;
}

abbrev pub is_read_at : List ℤ → ℕ → ℕ → Bool
is_read_at x lane place = is_read_by lane (readings_at x place)

-- the tone so many places before the one that a lane reads when a place is decided
abbrev pub tone_back : List ℤ → ℕ → ℕ → ℕ → Tone
tone_back x lane place back = tone_before (tones (list_of lane) x) (place + 1) (delay_of lane + back)

-- the tone that a lane reads
abbrev pub tone_read : List ℤ → ℕ → ℕ → Tone
tone_read x lane place = tone_back x lane place 0

-- the tones that a lane reads when the first `count` places are decided
unfoldable pub lane_tones : List ℤ → ℕ → ℕ → List Tone
lane_tones x lane count = map (tone_read x lane) (filter (is_read_at x lane) (range_with_len 0 count))

-- and the bits, by the rule of inverted NRZ
abbrev pub lane_bits : List ℤ → ℕ → ℕ → List Bool
lane_bits x lane count = bits_of (lane_tones x lane count)
