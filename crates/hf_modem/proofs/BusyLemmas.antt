-- When some lane holds a carrier.
use Rattle.hf_modem.proofs.Common.{◌≡◌, ℕ, ◌+◌, ◌<◌, ℤ, List, Bool, true, false, length, get_or, sym, ◌∙◌, arith, subst}
use Rattle.hf_modem.proofs.Common.{inl, inr, refl, ◌↔◌, All, cases_lt, true≢false, Tone, bits_of, bits, tones_at}
use Rattle.hf_modem.proofs.Common.{HeldToneLane, ToneLaneStandsFor}
use Rattle.std.proofs.Common.{IsTrue}
use Rattle.hdlc_framer.specs.Carrier.{HoldsCarrier}
use Rattle.hdlc_framer.specs.Held.{flags_asked}
use Rattle.hf_modem.specs.Busy.{HearsCarrier}
use Rattle.hf_modem.specs.Held.{AsksFor, LanesStandFor}

-- no carrier is held at the first offsets
abbrev pub NoneHolds : ℕ → List HeldToneLane → Type 0
NoneHolds index lanes = (flags : ℕ) (x : List ℤ) → LanesStandFor lanes x → All (AsksFor flags) lanes → (k : ℕ)
    → k < index → HoldsCarrier flags (bits k x) → ⊥

module _ (lanes : List HeldToneLane) (index : ℕ) (lane : HeldToneLane) (busy : Bool) (count : length lanes ≡ 32)
    (within : index < 32) (is : lane ≡ get_or lanes index lane)
    (tells : (tones : List Tone) → ToneLaneStandsFor lane tones → IsTrue busy
    ↔ HoldsCarrier (flags_asked lane.deframer) (bits_of tones))
    (flags : ℕ) (x : List ℤ) (stand : LanesStandFor lanes x) (ask : All (AsksFor flags) lanes) where
  lane_tells : IsTrue busy ↔ HoldsCarrier flags (bits index x)
  unfolding bits
  lane_tells =
      let stands : ToneLaneStandsFor lane (tones_at index x) =
      subst (λ t. ToneLaneStandsFor t (tones_at index x)) (sym is) (stand index lane within) in
      let asked : flags_asked lane.deframer ≡ flags = subst (AsksFor flags) (sym is) (ask index lane (omega arith)) in
      subst (λ n. IsTrue busy ↔ HoldsCarrier n (bits_of (tones_at index x))) asked (tells (tones_at index x) stands)

  -- a lane that is busy
  pub busy_there : busy ≡ true → IsTrue true ↔ HearsCarrier flags x
  busy_there e = (λ _. record { offset = index; small = within; carrier = lane_tells.0 e }, λ _. refl)

  -- and one that is not
  pub none_more : busy ≡ false → ((k : ℕ) → k < index → HoldsCarrier flags (bits k x) → ⊥) → (k : ℕ) → k < index + 1
      → HoldsCarrier flags (bits k x) → ⊥
  none_more e before k small holds = elim (cases_lt k index) [
    | inl lt ↦ before k lt holds
    | inr ge ↦ (let last : k ≡ index = omega arith in
        true≢false (sym (lane_tells.1 (subst (λ t. HoldsCarrier flags (bits t x)) last holds)) ∙ e))
  ]

pub none_busy : (lanes : List HeldToneLane) (index : ℕ) → 32 ≡ index → NoneHolds index lanes → (flags : ℕ) (x : List ℤ)
    → LanesStandFor lanes x → All (AsksFor flags) lanes
    → IsTrue false ↔ HearsCarrier flags x
none_busy lanes index all none flags x stand ask = (
  λ e. absurd (true≢false (sym e)),
  λ h. absurd (none flags x stand ask h.offset (let small = h.small in omega arith)
      h.carrier),
)
