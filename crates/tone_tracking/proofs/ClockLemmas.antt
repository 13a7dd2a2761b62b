-- A clock one place on.
use Rattle.tone_tracking.proofs.Common.{◌≡◌, ℕ, ◌+◌, ℤ, ap, sym, ◌∙◌, if◌then◌else◌, Tone, Pull, Clock, next_clock}
use Rattle.tone_tracking.proofs.Common.{clock_after}
use Rattle.std.proofs.Common.{true, false, add-one}
use Rattle.tone_tracking.specs.Clock.{changes, phase_next, phase_pulled, rate_pulled}

abbrev clock_of : ℤ → ℤ → Tone → Clock
clock_of phase rate before = record { phase = phase; rate = rate; before = before }

-- if the tone changes
pub next_pulled : (pull : Pull) (clock : Clock) (tone : Tone) (phase now rate : ℤ) → changes clock.before tone ≡ true
    → phase ≡ phase_next clock
    → now ≡ phase_pulled pull phase → rate ≡ rate_pulled pull phase clock.rate
    → clock_of now rate tone ≡ next_clock pull clock tone
next_pulled pull clock tone phase now rate changed same is_phase is_rate =
    let now_is : now ≡ (if changes clock.before tone then phase_pulled pull (phase_next clock) else phase_next clock)
    = is_phase ∙ ap (phase_pulled pull) same ∙ ap (λ b. if b then phase_pulled pull (phase_next clock)
    else phase_next clock) (sym changed) in
    let rate_is : rate ≡ (if changes clock.before tone then rate_pulled pull (phase_next clock) clock.rate
    else clock.rate)
    = is_rate ∙ ap (λ p. rate_pulled pull p clock.rate) same
    ∙ ap (λ b. if b then rate_pulled pull (phase_next clock) clock.rate else clock.rate) (sym changed) in
    λ i. record { phase = now_is i; rate = rate_is i; before = tone }

-- if it does not
pub next_same : (pull : Pull) (clock : Clock) (tone : Tone) (phase : ℤ) → changes clock.before tone ≡ false
    → phase ≡ phase_next clock
    → clock_of phase clock.rate tone ≡ next_clock pull clock tone
next_same pull clock tone phase stays same =
    let now_is : phase ≡ (if changes clock.before tone then phase_pulled pull (phase_next clock) else phase_next clock)
    = same ∙ ap (λ b. if b then phase_pulled pull (phase_next clock) else phase_next clock) (sym stays) in
    let rate_is : clock.rate ≡ (if changes clock.before tone then rate_pulled pull (phase_next clock) clock.rate
    else clock.rate)
    = ap (λ b. if b then rate_pulled pull (phase_next clock) clock.rate else clock.rate) (sym stays) in
    λ i. record { phase = now_is i; rate = rate_is i; before = tone }

pub clock_after-next : (pull : Pull) (tones : ℕ → Tone) (place : ℕ)
    → clock_after pull tones (place + 1) ≡ next_clock pull (clock_after pull tones place) (tones place)
unfolding clock_after
clock_after-next pull tones place = ap (clock_after pull tones) (add-one place)

-- a clock that was taken on by its tone is that of one place more
pub goes_on : (pull : Pull) (was now : Clock) (tone : Tone) (tones : ℕ → Tone) (place : ℕ)
    → now ≡ next_clock pull was tone
    → was ≡ clock_after pull tones place → tone ≡ tones place → now ≡ clock_after pull tones (place + 1)
goes_on pull was now tone tones place is stood same =
    is ∙ (λ i. next_clock pull (stood i) (same i)) ∙ sym (clock_after-next pull tones place)
