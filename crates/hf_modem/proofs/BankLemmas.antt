-- A bank with one sample more, and what is heard with it.
use Rattle.hf_modem.proofs.Common.{◌≡◌, ℕ, ◌+◌, ◌-◌, ◌*◌, ◌/◌, ◌%◌, ◌<◌, ◌≤◌, ℤ, List, [], ◌∷◌, ◌++◌, Option, length}
use Rattle.hf_modem.proofs.Common.{get_or, set, ap, sym, ◌∙◌, arith, subst, option_to_list, length_push, Tone, bits_of}
use Rattle.hf_modem.proofs.Common.{Candidate, tone_of, EndsWindow, tones_at, bits, AreCandidatesAfter, HeldToneLane}
use Rattle.hf_modem.proofs.Common.{ToneLaneStandsFor, BankStandsFor, last_window, IsHeard}
use Rattle.hf_modem.proofs.LastWindow.{tones_at-last}
use Rattle.hf_modem.proofs.LaneLemmas.{lanes_none, lanes_more}
use Rattle.hf_modem.proofs.HeardLemmas.{lane_hears, nothing_heard}

module _ (lanes : List HeldToneLane) (recent now : List ℤ) (position flags : ℕ) (x : List ℤ) (sample : ℤ)
    (push : (y : List ℤ) → recent ≡ last_window y → now ≡ last_window (y ++ sample ∷ []))
    (h : BankStandsFor (record { lanes = lanes; recent = recent; position = position; flags = flags }) x) where
  abbrev all : List ℤ
  all = x ++ sample ∷ []

  further : position + 1 ≡ length all
  further = let count = h.count in let more = length_push x sample in omega arith

  -- before the 32nd sample
  pub bank_early : position + 1 < 32 → BankStandsFor (record { lanes = lanes; recent = now; position = position + 1; flags = flags })
      all × AreCandidatesAfter (length x) all []
  bank_early few =
      let count = h.count in (
        record { count = further; recent = push x h.recent; lanes = lanes_none lanes x sample (omega arith) h.lanes },
        nothing_heard x sample (omega arith),
      )

  -- from then on
  pub bank_more : (offset : ℕ) (was lane : HeldToneLane) (tone : Tone) (heard : Option Candidate) → length lanes ≡ 32
      → 32 ≤ position + 1 → offset ≡ (position + 1) % 32
      → tone ≡ tone_of now
      → ((tones : List Tone) → ToneLaneStandsFor (get_or lanes offset was) tones
      → ToneLaneStandsFor lane (tones ++ tone ∷ []))
      → ((tones : List Tone) → ToneLaneStandsFor (get_or lanes offset was) tones
      → IsHeard offset (position + 1) (bits_of (tones ++ tone ∷ [])) heard)
      → BankStandsFor (record { lanes = set lanes offset lane; recent = now; position = position + 1; flags = flags }) all
      × AreCandidatesAfter (length x) all (option_to_list heard)
  unfolding bits
  bank_more offset was lane tone heard whole enough is decided step hears =
      let count = h.count in
      let size : length all ≡ length x + 1 = length_push x sample in
      let w : ℕ = (position + 1) / 32 - 1 in
      let small : offset < 32 = omega arith in
      let ends : length x + 1 ≡ offset + 32 * (w + 1) = omega arith in
      let window : EndsWindow offset all = (w, size ∙ ends) in
      let last : tone ≡ tone_of (last_window all) = decided ∙ ap tone_of (push x h.recent) in
      let more : tones_at offset x ++ tone ∷ [] ≡ tones_at offset all
      = ap (λ t. tones_at offset x ++ t ∷ []) last ∙ sym (tones_at-last offset w x sample ends) in
      let here : IsHeard offset (position + 1) (bits offset all) heard
      = subst (λ ts. IsHeard offset (position + 1) (bits_of ts) heard) more
      (hears (tones_at offset x) (h.lanes offset was small)) in (
        record {
          count = further;
          recent = push x h.recent;
          lanes = lanes_more lanes offset w was lane x sample tone whole small ends last step h.lanes;
        },
        lane_hears offset x sample small window (position + 1) heard further here,
      )
