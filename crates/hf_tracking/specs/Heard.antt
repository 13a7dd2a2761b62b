-- The tones that a bank decides: one for each place, a fourth of samples, from which three windows lie in the samples. It
-- is a recursion over places that reaches one bit, eight places, back.
use Rattle.std.specs.Prelude.{ℕ, zero, suc, ◌+◌, ◌-◌, ◌*◌, ◌/◌, ◌%◌, ℤ, pos, ◌+ℤ◌, ◌-ℤ◌, ◌*ℤ◌, List, int_le}
use Rattle.std.specs.Prelude.{if◌then◌else◌}
use Rattle.std.specs.Int.{int_max}
use Rattle.tone_table.specs.declared.tone.Tone.{Tone}
use Rattle.tone_table.specs.declared.tone.Tone.TheVariants.{Mark, Space}
use Rattle.tone_tracking.specs.declared.phasor.Phasor.{Phasor}
use Rattle.tone_tracking.specs.declared.correlation.Correlations.{Correlations}
use Rattle.tone_tracking.specs.Correlation.{of_tone}
use Rattle.tone_tracking.specs.Phasors.{size}
use Rattle.hf_tracking.specs.declared.track.Track.{Track}
use Rattle.hf_tracking.specs.Correlation.{correlations}
use Rattle.hf_tracking.specs.Tracks.{turned, expected, moved_on, next_track, no_track}

-- ---- one window

-- twice the part of one phasor that is in phase with another, times its amplitude
abbrev pub dot : Phasor → Phasor → ℤ
dot p q = (p.a *ℤ q.a +ℤ (p.a +ℤ p.b) *ℤ (q.a +ℤ q.b)) +ℤ p.b *ℤ q.b

-- how well a window fits what was expected
abbrev pub gain : Phasor → Phasor → ℤ
gain p heard = pos 4 *ℤ dot p heard -ℤ size p

-- a window two bits on as a tone, the two windows before it being of two tones
abbrev pub last_gain : Tone → Tone → Track → Correlations → Tone → ℤ
last_gain first second track later tone = gain (turned second (turned first (expected tone track))) (of_tone tone later)

-- a window one bit on as a tone, with the better of both tones after it
abbrev pub next_gain : Tone → Track → Correlations → Correlations → Tone → ℤ
next_gain first track next later tone =
    gain (turned first (expected tone track)) (of_tone tone next)
    +ℤ int_max (last_gain first tone (moved_on track) later Mark) (last_gain first tone (moved_on track) later Space)

-- a window as a tone, with the best tones after it
abbrev pub total_gain : Track → Correlations → Correlations → Correlations → Tone → ℤ
total_gain track now next later tone =
    gain (expected tone track) (of_tone tone now)
    +ℤ int_max (next_gain tone (moved_on track) next later Mark) (next_gain tone (moved_on track) next later Space)

-- mark exactly when it fits at least as well as mark
unfoldable pub decided : Track → Correlations → Correlations → Correlations → Tone
decided track now next later =
    if int_le (total_gain track now next later Space) (total_gain track now next later Mark) then Mark else Space

-- ---- all windows, of which a function gives the correlations at each place

-- the tone at a place, by the track there
abbrev pub tone_after : (ℕ → Correlations) → ℕ → Track → Tone
tone_after windows place track = decided track (windows place) (windows (place + 8)) (windows (place + 16))

-- the track at the place that so many windows lie before, the first of which begins at another place
unfoldable pub track_of : (ℕ → Correlations) → ℕ → ℕ → Track
track_of windows first zero = no_track
track_of windows first (suc count) =
    let track = track_of windows first count in
    let place = first + 8 * count in
    next_track (tone_after windows place track) (windows place) track

-- the track at a place: all windows that lie before it, eight places apart
unfoldable pub track_at : (ℕ → Correlations) → ℕ → Track
track_at windows place = track_of windows (place % 8) (place / 8)

-- the tone at a place
unfoldable pub tone_at : (ℕ → Correlations) → ℕ → Tone
tone_at windows place = tone_after windows place (track_at windows place)

-- ---- the tones of samples

-- how many windows begin at a place and lie in so many samples
abbrev pub windows_in : ℕ → ℕ
windows_in count = (count - 28) / 4

-- how many places have a tone: those from which 96 samples lie in the samples
abbrev pub places_in : ℕ → ℕ
places_in count = windows_in count - 16

-- the tone at a place of samples, as a bank decides it
abbrev pub heard : ℕ → List ℤ → ℕ → Tone
heard bank x place = tone_at (correlations bank x) place
