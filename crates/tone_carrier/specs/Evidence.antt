-- How much the windows of one offset, one after the other, speak for a carrier.
use Rattle.std.specs.Prelude.{ℕ, zero, suc, ◌+◌, ◌-◌, pos, List, min, if◌then◌else◌, slice_index_or}
use Rattle.tone_table.specs.declared.tone.Tone.{Tone}
use Rattle.tone_table.specs.declared.tone.Tone.TheVariants.{Mark}
use Rattle.nrzi_bits.specs.Line.{same_tone}
use Rattle.tone_carrier.specs.declared.heard_window.HeardWindow.{HeardWindow}
use Rattle.tone_carrier.specs.RunsOn.{runs_on}

-- what is heard in silence
abbrev pub silent : HeardWindow
silent = record { tone = Mark; sine = pos 0; cosine = pos 0; power = pos 0 }

-- the window at a place of a list
abbrev pub heard_at : List HeardWindow → ℕ → HeardWindow
heard_at windows k = slice_index_or windows k silent

-- the most that is counted, which is enough for a carrier
abbrev pub most_evidence : ℕ
most_evidence = 24

-- What a window speaks for a carrier that runs on from the one before: more if the tone changes, since a steady sound
-- runs on too.
abbrev pub gain : Tone → Tone → ℕ
gain before tone = if same_tone before tone then 1 else 2

-- the evidence with one window more: it rises if the window runs on, and falls by five otherwise
abbrev pub evidence_with : ℕ → HeardWindow → HeardWindow → ℕ
evidence_with evidence before window =
    if runs_on before window
    then min most_evidence (evidence + gain before.tone window.tone)
    else evidence - 5

-- the evidence after window k, none after window 0
unfoldable pub evidence : List HeardWindow → ℕ → ℕ
evidence windows zero = 0
evidence windows (suc k) = evidence_with (evidence windows k) (heard_at windows k) (heard_at windows (suc k))
