-- The bits of all 26 lanes, by the samples that they end with. A bit ends with a sample if that is the last one of the eight of
-- its window, and its end is the number of the samples up to that one. Lanes 0 to 7 read at every eighth sample, and decide
-- the windows as they are. The others read where their places are read, and decide by the tones of their lists. A bit is as
-- sure as its window, in whatever way it is decided.
use Rattle.std.specs.Prelude.{ℕ, ◌+◌, ◌-◌, ◌%◌, ◌==◌, ◌&&◌, nat_le, nat_lt, if◌then◌else◌, Bool, ℤ, List, length}
use Rattle.std.specs.Prelude.{drop, filter, map, pos, replicate, take, ◌++◌}
use Rattle.std.specs.List.{range_with_len}
use Rattle.tone_table.specs.declared.tone.Tone.{Tone}
use Rattle.nrzi_bits.specs.Line.{bits_of}
use Rattle.offset_slicers.specs.Decision.{tone_of}
use Rattle.fx25_receiver.specs.Certainty.{certainty}
use Rattle.sensitive_receiver.specs.Lanes.{added_places, delay_of, is_read_at, tone_read}

-- the place that an added lane reads for a bit with an end
abbrev pub place_for : ℕ → ℕ → ℕ
place_for lane end = end + delay_of lane - 8

-- one of the eight lanes reads a bit with an end
abbrev pub reads_window : List ℤ → ℕ → ℕ → Bool
reads_window x lane end = (nat_le 8 end && nat_le end (length x)) && (end % 8 == lane)

-- an added lane does: its place has a tone, and is one that it reads
abbrev pub reads_place : List ℤ → ℕ → ℕ → Bool
reads_place x lane end =
    (nat_le 8 (end + delay_of lane) && nat_lt (place_for lane end) (added_places (length x)))
    && is_read_at x lane (place_for lane end)

-- a lane reads a bit with an end
unfoldable pub reads : List ℤ → ℕ → ℕ → Bool
reads x lane end = if nat_lt lane 8 then reads_window x lane end else reads_place x lane end

-- the tone that it reads there
unfoldable pub tone_for : List ℤ → ℕ → ℕ → Tone
tone_for x lane end =
    if nat_lt lane 8 then tone_of (take 8 (drop (end - 8) x)) else tone_read x lane (place_for lane end)

-- the ends of the bits that a lane reads, as far as they are below a number
unfoldable pub ends : List ℤ → ℕ → ℕ → List ℕ
ends x lane count = filter (reads x lane) (range_with_len 0 count)

-- their tones
unfoldable pub lane_tones : List ℤ → ℕ → ℕ → List Tone
lane_tones x lane count = map (tone_for x lane) (ends x lane count)

-- and the bits, by the rule of inverted NRZ
abbrev pub lane_bits : List ℤ → ℕ → ℕ → List Bool
lane_bits x lane count = bits_of (lane_tones x lane count)

-- the window of a bit: the eight samples up to its end, with silence before the first
unfoldable pub window_to : List ℤ → ℕ → List ℤ
window_to x end = take 8 (drop end (replicate 8 (pos 0) ++ x))

-- how sure the bits are
unfoldable pub lane_certainties : List ℤ → ℕ → ℕ → List ℕ
lane_certainties x lane count = map (λ end. certainty (window_to x end)) (ends x lane count)
