-- When a block is coming in, by the lanes one after another.
use Rattle.fx25_receiver.proofs.Common.{◌≡◌, ℕ, ◌+◌, ◌<◌, ℤ, List, Bool, true, false, length, get_or, sym, ◌∙◌, arith}
use Rattle.fx25_receiver.proofs.Common.{subst, inl, inr, refl, cases_lt, true≢false, Tone, bits_of, bits, tones_at}
use Rattle.fx25_receiver.proofs.Common.{HeldLane, LaneHasTaken, LaneStandsFor, LanesStandFor}
use Rattle.std.proofs.Common.{◌↔◌, IsTrue}
use Rattle.fx25_blocks.specs.Coming.{IsBlockComing}
use Rattle.fx25_receiver.specs.Coming.{HearsBlock}

module _ (lanes : List HeldLane) (index : ℕ) (lane : HeldLane) (coming : Bool) (count : length lanes ≡ 8)
    (within : index < 8) (is : lane ≡ get_or lanes index lane)
    (tells : (tones : List Tone) → LaneStandsFor lane tones → IsTrue coming ↔ IsBlockComing (bits_of tones))
    (x : List ℤ) (stand : LanesStandFor lanes x) where
  lane_tells : IsTrue coming ↔ IsBlockComing (bits index x)
  unfolding bits
  lane_tells = tells (tones_at index x)
      (subst (λ t. LaneHasTaken t index x) (sym is) (stand index lane within)).stands

  -- a lane in which one comes
  pub comes_there : coming ≡ true → IsTrue true ↔ HearsBlock x
  comes_there e = (λ _. record { offset = index; small = within; coming = lane_tells.0 e }, λ _. refl)

  -- and one in which none does
  pub none_more : coming ≡ false → ((k : ℕ) → k < index → IsBlockComing (bits k x) → ⊥) → (k : ℕ) → k < index + 1
      → IsBlockComing (bits k x) → ⊥
  none_more e before k small comes = elim (cases_lt k index) [
    | inl lt ↦ before k lt comes
    | inr ge ↦ (let last : k ≡ index = omega arith in
        true≢false (sym (lane_tells.1 (subst (λ t. IsBlockComing (bits t x)) last comes)) ∙ e))
  ]

pub none_comes : (x : List ℤ) → ((k : ℕ) → k < 8 → IsBlockComing (bits k x) → ⊥) → IsTrue false ↔ HearsBlock x
none_comes x none = (
  λ e. absurd (true≢false (sym e)),
  λ h. absurd (none h.offset h.small h.coming),
)
