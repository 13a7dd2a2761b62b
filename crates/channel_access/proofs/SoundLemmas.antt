-- A transmission begins with a flag, whose first bit is a space from phase 0 on: its second sample is not 0.
use Rattle.std.proofs.Common.{◌≡◌, ℕ, suc, ◌-◌, ◌*◌, List, [], ◌∷◌, ◌++◌, refl, ap, ◌∙◌, arith}
use Rattle.std.specs.Prelude.{Bool, true, false, ◌&&◌, if◌then◌else◌, ℤ, pos, take, drop, length, nat_lt, replicate}
use Rattle.std.specs.Prelude.{Option, Some, None, is_none, is_some}
use Rattle.tone_table.specs.Sine.{quarter, half_wave, cycle_sample, wave_sample}
use Rattle.tone_table.specs.Wave.{pure_window}
use Rattle.hdlc_framer.specs.Body.{body}
use Rattle.afsk_modulator.specs.Level.{sample_at, at_level}
use Rattle.afsk_modulator.specs.Transmission.{transmission}
use Rattle.hf_sender.specs.Transmission.{hf_transmission}
use Rattle.hf_sender.specs.Wave.{pure_window as hf_pure_window}
use Rattle.channel_access.specs.declared.modem.Modem.{Modem}
use Rattle.channel_access.specs.declared.modem.Modem.TheVariants.{Bell202, ShortWave, Fx25}
use Rattle.channel_access.specs.Modem.{body_by, transmission_by}
use Rattle.channel_access.specs.Channel.{Channel, decision, begun, with_decision, air_samples}
use Rattle.channel_access.specs.Channel.{air_tick}
use Rattle.channel_access.specs.OnAir.{OnAir, most_frames, bits_then, flags_after, samples_on_air, has_sent_frames}
use Rattle.channel_access.specs.OnAir.{followed_by, decided, waiting_after, tick_samples}
use Rattle.channel_access.specs.Parameters.{opening_flags}
use Rattle.channel_access.specs.Sound.{has_sound}
use Rattle.channel_access.specs.Waiting.{WaitingFrame}

sounds_first : (modem : Modem) (frames : List (List ℕ)) (opening closing : ℕ) (after : List ℤ)
    → has_sound (take 96 (transmission_by modem frames (suc opening) closing ++ after)) ≡ true
unfolding transmission_by transmission hf_transmission at_level sample_at body body_by pure_window hf_pure_window wave_sample cycle_sample half_wave quarter
sounds_first Bell202 frames opening closing after = refl
sounds_first ShortWave frames opening closing after = refl
sounds_first (Fx25 checks) frames opening closing after = refl

first_tick : (t : OnAir) (opening : ℕ) → t.ticks ≡ 0 → t.opening ≡ suc opening → has_sound (tick_samples t) ≡ true
unfolding tick_samples samples_on_air
first_tick t opening none some =
    ap (λ (n : ℕ). has_sound (take 96 (drop (96 * n) (transmission_by t.modem t.frames t.opening (flags_after t)
    ++ replicate 96 (pos 0))))) none
    ∙ ap (λ (n : ℕ). has_sound (take 96 (transmission_by t.modem t.frames n (flags_after t) ++ replicate 96 (pos 0)))) some
    ∙ sounds_first t.modem t.frames opening (flags_after t) (replicate 96 (pos 0))

-- ---- a decision keeps the opening and the ticks

abbrev Same : OnAir → OnAir → Type 0
Same t before = (t.ticks ≡ before.ticks) × (t.opening ≡ before.opening)

either : (b : Bool) (x y t : OnAir) → Same x t → Same y t → Same (if b then x else y) t
either true x y t first second = first
either false x y t first second = second

followed_same : (waiting : List WaitingFrame) (t : OnAir) → Same (followed_by waiting t) t
followed_same [] t = (refl, refl)
followed_same (next ∷ others) t = either (nat_lt (length t.frames) most_frames)
    (record t { frames = t.frames ++ next.octets ∷ [] }) (record t { ends = true }) t (refl, refl) (refl, refl)

decided_same : (bits : ℕ) (waiting : List WaitingFrame) (t : OnAir) → Same (decided bits waiting t) t
decided_same bits waiting t = either (has_sent_frames bits t) (followed_by (waiting_after t waiting) t) t t
    (followed_same (waiting_after t waiting) t) (refl, refl)

-- ---- the tick

begun_sounds : (channel : Channel) (waiting : List WaitingFrame)
    → has_sound (air_samples waiting (Some (begun channel))) ≡ true
begun_sounds channel waiting =
    let t = begun channel in
    let same = decided_same (bits_then t) waiting t in
    let opening : ℕ = opening_flags channel.modem channel.parameters.tx_delay in
    let some : opening ≡ suc (opening - 1) = omega arith in
    first_tick (decided (bits_then t) waiting t) (opening - 1) same.0 (same.1 ∙ some)

by_decision : (begins : Bool) (channel : Channel) (waiting : List WaitingFrame)
    → is_some (if begins then Some (begun channel) else None) ≡ true
    → has_sound (air_samples waiting (if begins then Some (begun channel) else None)) ≡ true
by_decision true channel waiting is = begun_sounds channel waiting
by_decision false channel waiting is = absurd (cc)

at_air : (busy wants : Bool) (channel : Channel) (air : Option OnAir) → channel.air ≡ air
    → (is_none air && is_some (if is_none air then with_decision (decision busy wants channel) channel
    else channel).air) ≡ true
    → has_sound (air_samples (if is_none air then with_decision (decision busy wants channel) channel
    else channel).waiting (if is_none air then with_decision (decision busy wants channel) channel else channel).air)
    ≡ true
at_air busy wants channel None is began =
    by_decision (decision busy wants channel).begins channel channel.waiting began
at_air busy wants channel (Some t) is began = absurd (cc)

pub begins_with_sound : (busy wants : Bool) (channel : Channel) → (air_tick busy wants channel).began ≡ true
    → has_sound (air_tick busy wants channel).samples ≡ true
begins_with_sound busy wants channel began = at_air busy wants channel channel.air refl began
