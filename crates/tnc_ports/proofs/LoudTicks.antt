-- Each tick of a transmission has sound: one of its samples is not 0.
use Rattle.std.proofs.Common.{◌≡◌, ℕ, zero, suc, ◌+◌, ◌*◌, ◌<◌, ◌≤◌, List, [], ◌∷◌, ◌++◌, refl, sym, ap, subst, length}
use Rattle.std.proofs.Common.{take, drop, replicate, append_assoc, ◌∙◌, arith}
use Rattle.std.proofs.Math.Nat.{mod-lt}
use Rattle.std.proofs.Math.Seq.{drop-append-add}
use Rattle.std.proofs.lemmas.Bool.{agree_below_at, cases_Bool, leb-false, true≢false}
use Rattle.std.proofs.lemmas.List.{length-append}
use Rattle.std.proofs.lemmas.List.Folds.{list_any-append}
use Rattle.std.specs.List.{list_any}
use Rattle.std.specs.Ordering.{int_eq}
use Rattle.std.specs.Prelude.{Bool, true, false, ◌||◌, not, nat_le, nat_lt, if◌then◌else◌, ℤ, pos, Option, Some, None, is_none}
use Rattle.tone_table.specs.declared.tone.Tone.{Tone}
use Rattle.tone_table.specs.declared.tone.Tone.TheVariants.{Mark, Space}
use Rattle.tone_table.specs.Sine.{quarter, half_wave, cycle_sample, wave_sample}
use Rattle.tone_table.specs.Tones.{next_phase, phase_step}
use Rattle.tone_table.specs.Wave.{pure_window, wave_from}
use Rattle.hf_sender.specs.Tones.{next_phase as hf_next_phase, phase_step as hf_phase_step}
use Rattle.hf_sender.specs.Wave.{pure_window as hf_pure_window, wave as hf_wave, wave_from as hf_wave_from}
use Rattle.afsk_modulator.proofs.LevelLemmas.{at_level-full}
use Rattle.channel_access.specs.Modem.{bits_of_ticks, samples_of_bits}
use Rattle.channel_access.specs.declared.modem.Modem.{Modem}
use Rattle.channel_access.specs.declared.modem.Modem.TheVariants.{Bell202, ShortWave, Fx25}
use Rattle.channel_access.proofs.ModemLemmas.{modem_wave, samples_of_bits-ticks}
use Rattle.channel_access.proofs.TickLemmas.{modem-decided}
use Rattle.nrzi_bits.specs.Line.{line}
use Rattle.nrzi_bits.proofs.LineLemmas.{length-line_from}
use Rattle.channel_access.specs.Channel.{Channel, after_rules, after_tick, air_after, air_samples, air_tick}
use Rattle.channel_access.specs.Channel.{decision, with_decision}
use Rattle.channel_access.specs.OnAir.{OnAir, bits_of, bits_then, decided, followed_by, has_sent_frames, most_frames}
use Rattle.channel_access.specs.OnAir.{names_next, tick_samples, waiting_after, with_named, with_tick}
use Rattle.channel_access.specs.Sound.{has_sound}
use Rattle.channel_access.specs.Waiting.{WaitingFrame}
use Rattle.channel_access.proofs.AirLemmas.{samples_on_air-is, bits_of-with_named}
use Rattle.channel_access.proofs.WholeLemmas.{decided_adds}
use Rattle.tnc_ports.proofs.ChannelKept.{either}

-- ---- a wave

loud_window : (phase : ℕ) (tone : Tone) → phase < 48 → has_sound (pure_window phase tone) ≡ true
unfolding pure_window wave_sample cycle_sample half_wave quarter
loud_window phase Mark within =
    agree_below_at (λ p. has_sound (pure_window p Mark)) (λ _. true) 48 phase refl within
loud_window phase Space within =
    agree_below_at (λ p. has_sound (pure_window p Space)) (λ _. true) 48 phase refl within

loud_first : (xs ys : List ℤ) → has_sound xs ≡ true → has_sound (xs ++ ys) ≡ true
loud_first xs ys loud =
    list_any-append (λ (sample : ℤ). not (int_eq sample (pos 0))) xs ys
    ∙ ap (λ (b : Bool). b || has_sound ys) loud

window_length : (phase : ℕ) (tone : Tone) → length (pure_window phase tone) ≡ 8
unfolding pure_window
window_length phase tone = refl

loud_now : (phase : ℕ) (tone : Tone) (later : List ℤ) → phase < 48
    → has_sound (take 96 (pure_window phase tone ++ later)) ≡ true
unfolding pure_window
loud_now phase tone later within = loud_first (pure_window phase tone) (take 88 later) (loud_window phase tone within)

-- 96 samples from the beginning of a bit on
loud_from : (n phase : ℕ) (tones : List Tone) (rest : List ℤ) → phase < 48 → n < length tones
    → has_sound (take 96 (drop (8 * n) (wave_from phase tones ++ rest))) ≡ true
loud_from n phase [] rest within below = absurd (omega arith)
loud_from zero phase (tone ∷ tones) rest within below =
    ap (λ (xs : List ℤ). has_sound (take 96 xs))
    (append_assoc (pure_window phase tone) (wave_from (next_phase phase tone) tones) rest)
    ∙ loud_now phase tone (wave_from (next_phase phase tone) tones ++ rest) within
loud_from (suc n) phase (tone ∷ tones) rest within below =
    let front : List ℤ = pure_window phase tone in
    let later : List ℤ = wave_from (next_phase phase tone) tones in
    let size : length (pure_window phase tone) ≡ 8 = window_length phase tone in
    let place : 8 * suc n ≡ length (pure_window phase tone) + 8 * n = omega (arith, size) in
    ap (λ (k : ℕ). has_sound (take 96 (drop k ((front ++ later) ++ rest)))) place
    ∙ ap (λ (xs : List ℤ). has_sound (take 96 (drop (length front + 8 * n) xs))) (append_assoc front later rest)
    ∙ ap (λ (xs : List ℤ). has_sound (take 96 xs)) (drop-append-add front (later ++ rest) (8 * n))
    ∙ loud_from n (next_phase phase tone) tones rest (mod-lt (phase + 8 * phase_step tone) (omega arith)) (omega arith)

-- ---- the same on short wave

loud_hf_window : (phase : ℕ) (tone : Tone) → phase < 48 → has_sound (hf_pure_window phase tone) ≡ true
unfolding hf_pure_window wave_sample cycle_sample half_wave quarter
loud_hf_window phase Mark within =
    agree_below_at (λ p. has_sound (hf_pure_window p Mark)) (λ _. true) 48 phase refl within
loud_hf_window phase Space within =
    agree_below_at (λ p. has_sound (hf_pure_window p Space)) (λ _. true) 48 phase refl within

hf_window_length : (phase : ℕ) (tone : Tone) → length (hf_pure_window phase tone) ≡ 32
unfolding hf_pure_window
hf_window_length phase tone = refl

loud_hf_now : (phase : ℕ) (tone : Tone) (later : List ℤ) → phase < 48
    → has_sound (take 96 (hf_pure_window phase tone ++ later)) ≡ true
unfolding hf_pure_window
loud_hf_now phase tone later within =
    loud_first (hf_pure_window phase tone) (take 64 later) (loud_hf_window phase tone within)

loud_hf_from : (n phase : ℕ) (tones : List Tone) (rest : List ℤ) → phase < 48 → n < length tones
    → has_sound (take 96 (drop (32 * n) (hf_wave_from phase tones ++ rest))) ≡ true
loud_hf_from n phase [] rest within below = absurd (omega arith)
loud_hf_from zero phase (tone ∷ tones) rest within below =
    ap (λ (xs : List ℤ). has_sound (take 96 xs))
    (append_assoc (hf_pure_window phase tone) (hf_wave_from (hf_next_phase phase tone) tones) rest)
    ∙ loud_hf_now phase tone (hf_wave_from (hf_next_phase phase tone) tones ++ rest) within
loud_hf_from (suc n) phase (tone ∷ tones) rest within below =
    let front : List ℤ = hf_pure_window phase tone in
    let later : List ℤ = hf_wave_from (hf_next_phase phase tone) tones in
    let size : length (hf_pure_window phase tone) ≡ 32 = hf_window_length phase tone in
    let place : 32 * suc n ≡ length (hf_pure_window phase tone) + 32 * n = omega (arith, size) in
    ap (λ (k : ℕ). has_sound (take 96 (drop k ((front ++ later) ++ rest)))) place
    ∙ ap (λ (xs : List ℤ). has_sound (take 96 (drop (length front + 32 * n) xs))) (append_assoc front later rest)
    ∙ ap (λ (xs : List ℤ). has_sound (take 96 xs)) (drop-append-add front (later ++ rest) (32 * n))
    ∙ loud_hf_from n (hf_next_phase phase tone) tones rest
    (mod-lt (phase + 32 * hf_phase_step tone) (omega arith)) (omega arith)

-- 96 samples from the beginning of a bit on, by any modem
loud_by : (modem : Modem) (n : ℕ) (tones : List Tone) (rest : List ℤ) → n < length tones
    → has_sound (take 96 (drop (samples_of_bits modem n) (modem_wave modem tones ++ rest))) ≡ true
loud_by Bell202 n tones rest below = loud_from n 0 tones rest (omega arith) below
loud_by (Fx25 checks) n tones rest below = loud_from n 0 tones rest (omega arith) below
loud_by ShortWave n tones rest below =
    ap (λ (xs : List ℤ). has_sound (take 96 (drop (32 * n) (xs ++ rest)))) (at_level-full (hf_wave tones))
    ∙ loud_hf_from n 0 tones rest (omega arith) below

-- ---- a transmission under way

-- some bits of it are not sent yet
abbrev pub HasLeft : Option OnAir → Type 0
HasLeft None = Unit {0}
HasLeft (Some t) = bits_of_ticks t.modem t.ticks < length (bits_of t)

loud_tick : (t : OnAir) → HasLeft (Some t) → has_sound (tick_samples t) ≡ true
unfolding tick_samples
loud_tick t left =
    let place : 96 * t.ticks ≡ samples_of_bits t.modem (bits_of_ticks t.modem t.ticks) =
    sym (samples_of_bits-ticks t.modem t.ticks) in
    ap (λ (xs : List ℤ). has_sound (take 96 (drop (96 * t.ticks) (xs ++ replicate 96 (pos 0))))) (samples_on_air-is t)
    ∙ ap (λ (k : ℕ). has_sound (take 96 (drop k (modem_wave t.modem (line (bits_of t)) ++ replicate 96 (pos 0))))) place
    ∙ loud_by t.modem (bits_of_ticks t.modem t.ticks) (line (bits_of t)) (replicate 96 (pos 0))
    (let size = length-line_from Mark (bits_of t) in omega (arith, left, size))

-- ---- what is left when more is decided, and a tick is sent

followed_ticks : (waiting : List WaitingFrame) (t : OnAir) → (followed_by waiting t).ticks ≡ t.ticks
followed_ticks [] t = refl
followed_ticks (next ∷ others) t =
    either (λ (u : OnAir). u.ticks) (nat_lt (length t.frames) most_frames)
    (record t { frames = t.frames ++ next.octets ∷ [] }) (record t { ends = true }) t.ticks refl refl

decided_ticks : (bits : ℕ) (waiting : List WaitingFrame) (t : OnAir) → (decided bits waiting t).ticks ≡ t.ticks
decided_ticks bits waiting t =
    either (λ (u : OnAir). u.ticks) (has_sent_frames bits t) (followed_by (waiting_after t waiting) t) t t.ticks
    (followed_ticks (waiting_after t waiting) t) refl

decided_left : (bits : ℕ) (waiting : List WaitingFrame) (t : OnAir) → HasLeft (Some t)
    → HasLeft (Some (decided bits waiting t))
decided_left bits waiting t left =
    let more = decided_adds bits waiting t in
    let size = ap length more.1 in
    let parts = length-append (bits_of t) more.0 in
    let d : OnAir = decided bits waiting t in
    let same : bits_of_ticks d.modem d.ticks ≡ bits_of_ticks t.modem t.ticks =
    ap (bits_of_ticks d.modem) (decided_ticks bits waiting t)
    ∙ ap (λ modem. bits_of_ticks modem t.ticks) (modem-decided bits waiting t) in
    omega (arith, left, size, parts, same)

one_more_sent : (t : OnAir) → HasLeft (with_tick t)
unfolding bits_of
one_more_sent t = by_end (nat_le (length (bits_of t)) (bits_then t)) refl
  where
    by_end : (b : Bool) → nat_le (length (bits_of t)) (bits_then t) ≡ b
        → HasLeft (if b then None else Some (record t { ticks = t.ticks + 1 }))
    by_end true over = tt
    by_end false goes = leb-false (length (bits_of t)) (bits_then t) goes

after_left : (waiting : List WaitingFrame) (air : Option OnAir) → HasLeft (air_after waiting air)
after_left waiting None = tt
after_left waiting (Some t) = one_more_sent (with_named (bits_then t) (decided (bits_then t) waiting t))

air_loud : (waiting : List WaitingFrame) (t : OnAir) → HasLeft (Some t)
    → has_sound (air_samples waiting (Some t)) ≡ true
air_loud waiting t left =
    loud_tick (decided (bits_then t) waiting t) (decided_left (bits_then t) waiting t left)

module _ (busy wants : Bool) (channel : Channel) where
  pub stays_left : HasLeft (after_tick busy wants channel).air
  stays_left = after_left (after_rules busy wants channel).waiting (after_rules busy wants channel).air

  abbrev ruled : Option OnAir → Channel
  ruled air = if is_none air then with_decision (decision busy wants channel) channel else channel

  goes_on : (air : Option OnAir) (t : OnAir) → channel.air ≡ air → air ≡ Some t → (ruled air).air ≡ Some t
  goes_on None t is some = absurd (cc some)
  goes_on (Some u) t is some = is ∙ some

  -- a tick of a transmission that is under way before it
  pub is_loud : (t : OnAir) → channel.air ≡ Some t → HasLeft channel.air
      → has_sound (air_tick busy wants channel).samples ≡ true
  is_loud t is left =
      ap (λ (air : Option OnAir). has_sound (air_samples (after_rules busy wants channel).waiting air))
      (goes_on channel.air t refl is)
      ∙ air_loud (after_rules busy wants channel).waiting t (subst HasLeft is left)
