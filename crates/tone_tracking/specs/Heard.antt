-- Tones decided in phase. A list of tones has one for each place from which three windows of eight samples lie in the
-- samples. It is a recursion over places that reaches one window back.
use Rattle.std.specs.Prelude.{ℕ, zero, suc, ◌+◌, ◌-◌, ◌*◌, ◌/◌, ◌%◌, ℤ, pos, List, [], ◌∷◌, ◌++◌, map, fold, int_le}
use Rattle.std.specs.Prelude.{if◌then◌else◌}
use Rattle.std.specs.Int.{int_max}
use Rattle.tone_table.specs.declared.tone.Tone.{Tone}
use Rattle.tone_table.specs.declared.tone.Tone.TheVariants.{Mark, Space}
use Rattle.tone_tracking.specs.declared.phasor.Phasor.{Phasor}
use Rattle.tone_tracking.specs.declared.correlation.Correlations.{Correlations}
use Rattle.tone_tracking.specs.declared.reach.Reach.{Reach}
use Rattle.tone_tracking.specs.declared.reach.Reach.TheVariants.{Alone, Near, Far}
use Rattle.tone_tracking.specs.Phasors.{none, plus, turn, turn_back, size, three_quarters}
use Rattle.tone_tracking.specs.Correlation.{correlations, of_tone}

-- ---- one window

-- What the windows ahead can add to one of a tone: a sum in phase for each way in which these can have tones.
abbrev pub ahead : Tone → List Correlations → List Phasor
ahead tone [] = none ∷ []
ahead tone (next ∷ later) =
    map (λ sum. turn tone (plus next.mark sum)) (ahead Mark later)
    ++ map (λ sum. turn tone (plus next.space sum)) (ahead Space later)

-- the largest size of a phasor and one of the sums
abbrev pub largest : Phasor → List Phasor → ℤ
largest from sums = fold (λ most sum. int_max most (size (plus from sum))) (pos 0) sums

-- how loud a window is as one tone, with what was decided before it and what can come after it
abbrev pub loudness : Tone → Phasor → Correlations → List Correlations → ℤ
loudness tone past now next = largest (plus past (of_tone tone now)) (ahead tone next)

-- mark exactly when the window is at least as loud as mark
unfoldable pub decided : Phasor → Correlations → List Correlations → Tone
decided past now next = if int_le (loudness Space past now next) (loudness Mark past now next) then Mark else Space

-- ---- all windows, of which a function gives the correlations at each place

-- the windows that are open, of the next two
abbrev pub open_of : Reach → Correlations → Correlations → List Correlations
open_of Alone next later = []
open_of Near next later = next ∷ []
open_of Far next later = next ∷ later ∷ []

-- those next to a place
abbrev pub open_windows : Reach → (ℕ → Correlations) → ℕ → List Correlations
open_windows reach windows place = open_of reach (windows (place + 8)) (windows (place + 16))

-- how much of the past remains
abbrev pub kept : Reach → Phasor → Phasor
kept Alone past = none
kept Near past = none
kept Far past = three_quarters past

-- the tone at a place, by the past there
abbrev pub tone_after : Reach → (ℕ → Correlations) → ℕ → Phasor → Tone
tone_after reach windows place past = decided past (windows place) (open_windows reach windows place)

-- what is decided at a window and kept of the past there, as it stands in phase one window on
abbrev pub in_phase : Reach → Tone → Correlations → Phasor → Phasor
in_phase reach tone now past = turn_back tone (plus (of_tone tone now) (kept reach past))

-- the past one window on, by the past at a place and the tone decided there; a window that stands alone has none
abbrev pub passed : Reach → Tone → Correlations → Phasor → Phasor
passed Alone tone now past = none
passed Near tone now past = in_phase Near tone now past
passed Far tone now past = in_phase Far tone now past

-- the past at the place that so many windows lie before, the first of which begins at another place
unfoldable pub past_of : Reach → (ℕ → Correlations) → ℕ → ℕ → Phasor
past_of reach windows first zero = none
past_of reach windows first (suc count) =
    let past = past_of reach windows first count in
    let place = first + 8 * count in
    passed reach (tone_after reach windows place past) (windows place) past

-- the past at a place: all windows that lie before it, eight places apart
unfoldable pub past_at : Reach → (ℕ → Correlations) → ℕ → Phasor
past_at reach windows place = past_of reach windows (place % 8) (place / 8)

-- the tone at a place
unfoldable pub tone_at : Reach → (ℕ → Correlations) → ℕ → Tone
tone_at reach windows place = tone_after reach windows place (past_at reach windows place)

-- ---- the tones of samples

-- how many places have a tone: those from which 24 samples lie in the samples
abbrev pub places_in : ℕ → ℕ
places_in count = count - 23

-- the tone at a place of samples
abbrev pub heard : Reach → List ℤ → ℕ → Tone
heard reach x place = tone_at reach (correlations x) place
