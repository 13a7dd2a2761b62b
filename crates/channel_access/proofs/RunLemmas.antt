-- Bits of a tick, one more at a time.
use Rattle.channel_access.proofs.Common.{◌≡◌, ℕ, ◌+◌, Bool, Option, List, ◌++◌, ℤ, ap, add-one, Sent, Sending}
use Rattle.channel_access.proofs.Common.{WaitingFrame, Run, step_of, with_step, following_bit, window_of, sent_with}
use Rattle.channel_access.proofs.Common.{with_bit, with_bits, Step, Modem, Some, None, refl, zero, suc, ◌∙◌, modem_of}
use Rattle.channel_access.proofs.ModemLemmas.{modem_of-after}

pub with_bits-more : (modem : Modem) (count : ℕ) (run : Run)
    → with_bits modem (count + 1) run ≡ with_bit modem count (with_bits modem count run)
unfolding with_bits
with_bits-more modem count run = ap (λ n. with_bits modem n run) (add-one count)

-- one bit more of a run, whose sender, waiting frames, samples and frame are these
module _ (modem : Modem) (start : Run) (count : ℕ) (self stepped : Sending) (waiting : List WaitingFrame) (value : Option Bool)
    (is_self : self ≡ (with_bits modem count start).sending) (is_waiting : waiting ≡ (with_bits modem count start).waiting)
    (is_stepped : stepped ≡ with_step self (step_of self waiting)) (is_value : value ≡ (step_of self waiting).bit) where
  pub sending_more : (next : Sending) → next ≡ following_bit stepped value → next ≡ (with_bits modem (count + 1) start).sending
  unfolding with_bit
  sending_more next is =
      let more = ap (λ (r : Run). r.sending) (with_bits-more modem count start) in
      cc

  pub waiting_more : (next : List WaitingFrame) → next ≡ (step_of self waiting).waiting
      → next ≡ (with_bits modem (count + 1) start).waiting
  unfolding with_bit
  waiting_more next is =
      let more = ap (λ (r : Run). r.waiting) (with_bits-more modem count start) in
      cc

  pub samples_more : (now next window : List ℤ) → now ≡ (with_bits modem count start).samples
      → window ≡ window_of stepped value
      → next ≡ now ++ window → next ≡ (with_bits modem (count + 1) start).samples
  unfolding with_bit
  samples_more now next window is_now is_window is =
      let more = ap (λ (r : Run). r.samples) (with_bits-more modem count start) in
      cc

  pub sent_more : (now next : Option Sent) (named : Option (List ℕ)) → now ≡ (with_bits modem count start).sent
      → named ≡ (step_of self waiting).named → next ≡ sent_with modem named (count + 1) now
      → next ≡ (with_bits modem (count + 1) start).sent
  unfolding with_bit
  sent_more now next named is_now is_named is =
      let more = ap (λ (r : Run). r.sent) (with_bits-more modem count start) in
      cc

-- no bit changes the modem of a sender
modem-following_bit : (s : Sending) (bit : Option Bool) → modem_of (following_bit s bit).wave ≡ modem_of s.wave
modem-following_bit s None = refl
modem-following_bit s (Some bit) = modem_of-after s.wave _

pub modem-with_bits : (modem : Modem) (count : ℕ) (run : Run)
    → modem_of (with_bits modem count run).sending.wave ≡ modem_of run.sending.wave
unfolding with_bits with_bit
modem-with_bits modem zero run = refl
modem-with_bits modem (suc count) run =
    let before : Run = with_bits modem count run in
    let step : Step = step_of before.sending before.waiting in
    modem-following_bit (with_step before.sending step) step.bit ∙ modem-with_bits modem count run
