-- The wave of Bell 202 by place: which phase a sample has, without those before it.
use Rattle.std.specs.Prelude.{ℕ, ◌+◌, ◌*◌, List, take, slice_index_or}
use Rattle.std.specs.List.{sum_by}
use Rattle.tone_table.specs.declared.tone.Tone.{Tone}
use Rattle.tone_table.specs.declared.tone.Tone.TheVariants.{Mark}
use Rattle.tone_table.specs.Tones.{phase_step}

-- the phase, in forty-eighths of a cycle, at which the eight samples of a tone begin: each tone before moved it by
-- eight steps
abbrev pub start_of : List Tone → ℕ → ℕ
start_of tones place = 8 * sum_by phase_step (take place tones)

-- the phase of sample i of a tone
abbrev pub phase_at : List Tone → ℕ → ℕ → ℕ
phase_at tones place i = start_of tones place + i * phase_step (slice_index_or tones place Mark)
