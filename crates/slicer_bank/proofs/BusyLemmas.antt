-- When some lane holds a carrier.
use Rattle.slicer_bank.proofs.Common.{◌≡◌, ℕ, ◌+◌, ◌<◌, ℤ, List, Bool, true, false, length, get_or, sym, ◌∙◌, arith}
use Rattle.slicer_bank.proofs.Common.{subst, inl, inr, refl, ◌↔◌, IsTrue, All, cases_lt, true≢false, Tone, bits_of}
use Rattle.slicer_bank.proofs.Common.{bits, tones_at, HoldsCarrier, flags_asked, HeldLane, AsksFor, LaneStandsFor}
use Rattle.slicer_bank.proofs.Common.{LanesStandFor, HearsCarrier}

-- no carrier is held at the first offsets
abbrev pub NoneHolds : ℕ → List HeldLane → Type 0
NoneHolds index lanes = (flags : ℕ) (x : List ℤ) → LanesStandFor lanes x → All (AsksFor flags) lanes → (k : ℕ)
    → k < index → HoldsCarrier flags (bits k x) → ⊥

module _ (lanes : List HeldLane) (index : ℕ) (lane : HeldLane) (busy : Bool) (count : length lanes ≡ 8)
    (within : index < 8) (is : lane ≡ get_or lanes index lane)
    (tells : (tones : List Tone) → LaneStandsFor lane tones → IsTrue busy
    ↔ HoldsCarrier (flags_asked lane.deframer) (bits_of tones))
    (flags : ℕ) (x : List ℤ) (stand : LanesStandFor lanes x) (ask : All (AsksFor flags) lanes) where
  lane_tells : IsTrue busy ↔ HoldsCarrier flags (bits index x)
  unfolding bits
  lane_tells =
      let stands : LaneStandsFor lane (tones_at index x) =
      subst (λ t. LaneStandsFor t (tones_at index x)) (sym is) (stand index lane within) in
      let asked : flags_asked lane.deframer ≡ flags = subst (AsksFor flags) (sym is) (ask index lane (omega arith)) in
      subst (λ n. IsTrue busy ↔ HoldsCarrier n (bits_of (tones_at index x))) asked (tells (tones_at index x) stands)

  -- a lane that is busy
  pub busy_there : busy ≡ true → IsTrue true ↔ HearsCarrier flags x
  busy_there e = (λ _. record { offset = index; small = within; carrier = lane_tells.0 e }, λ _. refl)

  -- and one that is not
  pub none_more : busy ≡ false → ((k : ℕ) → k < index → HoldsCarrier flags (bits k x) → ⊥) → (k : ℕ) → k < index + 1
      → HoldsCarrier flags (bits k x) → ⊥
  none_more e before k small holds = elim (cases_lt k index) [
    | inl lt ↦ before k lt holds
    | inr ge ↦ (let last : k ≡ index = omega arith in
        true≢false (sym (lane_tells.1 (subst (λ t. HoldsCarrier flags (bits t x)) last holds)) ∙ e))
  ]

pub none_busy : (lanes : List HeldLane) (index : ℕ) → 8 ≡ index → NoneHolds index lanes → (flags : ℕ) (x : List ℤ)
    → LanesStandFor lanes x → All (AsksFor flags) lanes
    → IsTrue false ↔ HearsCarrier flags x
none_busy lanes index all none flags x stand ask = (
  λ e. absurd (true≢false (sym e)),
  λ h. absurd (none flags x stand ask h.offset (let small = h.small in omega arith)
      h.carrier),
)
