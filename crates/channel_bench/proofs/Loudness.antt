-- No sample of a tick is louder than 10000.
use Rattle.channel_bench.proofs.Common.{ℕ, ◌+◌, ◌*◌, ◌≤◌, Bool, ℤ, pos, List, [], ◌∷◌, ◌++◌, unsigned_abs, get_or, drop}
use Rattle.channel_bench.proofs.Common.{replicate, Option, Some, None, arith, range_with_len, All-replicate, line}
use Rattle.channel_bench.proofs.Common.{Channel, after_rules, air_samples, OnAir, bits_then, decided, samples_on_air}
use Rattle.channel_bench.proofs.Common.{tick_samples, WaitingFrame, StationState, air_of, asked_links, begin}
use Rattle.channel_bench.proofs.Common.{some_wants}
use Rattle.std.specs.List.{All}
use Rattle.std.proofs.lemmas.List.Elements.{All-nil, All-map, All-append, All-take, All-drop}
use Rattle.tone_table.specs.declared.tone.Tone.{Tone}
use Rattle.tone_table.specs.Sine.{wave_sample}
use Rattle.tone_table.specs.Tones.{phase_step, next_phase}
use Rattle.tone_table.specs.Wave.{pure_window, wave_from}
use Rattle.tone_table.proofs.SineLemmas.{unsigned_abs-wave_sample}
use Rattle.hdlc_framer.specs.Body.{body}
use Rattle.afsk_modulator.specs.Transmission.{transmission}
use Rattle.hf_sender.proofs.LoudnessLemmas.{within-hf_transmission}
use Rattle.channel_access.specs.Modem.{body_by, transmission_by}
use Rattle.channel_access.specs.OnAir.{flags_after}
use Rattle.channel_access.specs.declared.modem.Modem.{Modem}
use Rattle.channel_access.specs.declared.modem.Modem.TheVariants.{Bell202, ShortWave, Fx25}

abbrev pub IsLoudAtMost : ℤ → Type 0
IsLoudAtMost sample = unsigned_abs sample ≤ 10000

within-pure_window : (phase : ℕ) (tone : Tone) → All IsLoudAtMost (pure_window phase tone)
unfolding pure_window
within-pure_window phase tone =
    All-map IsLoudAtMost (λ i. wave_sample (phase + i * phase_step tone)) (range_with_len 0 8)
    (λ k d below. unsigned_abs-wave_sample (phase + get_or (range_with_len 0 8) k d * phase_step tone))

within-wave_from : (phase : ℕ) (tones : List Tone) → All IsLoudAtMost (wave_from phase tones)
within-wave_from phase [] = All-nil IsLoudAtMost
within-wave_from phase (tone ∷ tones) =
    All-append IsLoudAtMost (pure_window phase tone) (wave_from (next_phase phase tone) tones)
    (within-pure_window phase tone) (within-wave_from (next_phase phase tone) tones)

within-transmission : (frames : List (List ℕ)) (opening closing : ℕ)
    → All IsLoudAtMost (transmission frames opening closing)
unfolding transmission
within-transmission frames opening closing = within-wave_from 0 (line (body frames opening closing))

within-by : (modem : Modem) (frames : List (List ℕ)) (opening closing : ℕ)
    → All IsLoudAtMost (transmission_by modem frames opening closing)
unfolding transmission_by
within-by Bell202 frames opening closing = within-transmission frames opening closing
within-by ShortWave frames opening closing = within-hf_transmission 10000 frames opening closing
within-by (Fx25 checks) frames opening closing =
    within-wave_from 0 (line (body_by (Fx25 checks) frames opening closing))

within-samples : (t : OnAir) → All IsLoudAtMost (samples_on_air t)
unfolding samples_on_air
within-samples t = within-by t.modem t.frames t.opening (flags_after t)

pub silence_within : (n : ℕ) → All IsLoudAtMost (replicate n (pos 0))
silence_within n = All-replicate IsLoudAtMost n (pos 0) (omega arith)

within-tick : (t : OnAir) → All IsLoudAtMost (tick_samples t)
unfolding tick_samples
within-tick t =
    let all : List ℤ = samples_on_air t ++ replicate 96 (pos 0) in
    All-take IsLoudAtMost 96 (drop (96 * t.ticks) all)
    (All-drop IsLoudAtMost (96 * t.ticks) all
    (All-append IsLoudAtMost (samples_on_air t) (replicate 96 (pos 0)) (within-samples t) (silence_within 96)))

within-air : (waiting : List WaitingFrame) (air : Option OnAir) → All IsLoudAtMost (air_samples waiting air)
within-air waiting None = silence_within 96
within-air waiting (Some t) = within-tick (decided (bits_then t) waiting t)

pub air_within : (busy : Bool) (s : StationState) → All IsLoudAtMost (air_of busy s).samples
air_within busy s =
    let asked = (asked_links busy (begin s)).now in
    let now : Channel = after_rules busy (some_wants asked.links) asked.channel in
    within-air now.waiting now.air
