-- A stretch with one more sample, as the slicer and the deframer of a lane tell it.
use Rattle.slicer_bank.proofs.Common.{◌≡◌, ℕ, ℤ, Bool, true, List, [], ◌∷◌, ◌++◌, Option, None, subst, sym, ◌∙◌, ◌↔◌}
use Rattle.slicer_bank.proofs.Common.{append-nil, sameb, the_type, Event, Frame, EventAt, frame_by_test, bits}
use Rattle.slicer_bank.proofs.Common.{EndsWindow, offset_from, Stretch, with_sample, stretch_bits, EndsLast}
use Rattle.std.specs.Prelude.{IsSome, option_to_list}
use Rattle.offset_slicers.specs.Held.{Held}

module _ (offset : ℕ) (slicer : Held) (slices : slicer.offset ≡ offset) (x z : ℤ) (stored : z ≡ x) (s : Stretch) where
  -- the bits, which are those before and the bit that the slicer gives, if it gives one
  pub bits_more : (told : Option Bool)
      → bits (offset_from slicer.offset s.begin) (s.samples ++ z ∷ [])
      ≡ bits (offset_from slicer.offset s.begin) s.samples ++ option_to_list told
      → stretch_bits offset (with_sample s x) ≡ stretch_bits offset s ++ option_to_list told
  bits_more told e =
      subst (λ (y : ℤ). stretch_bits offset (with_sample s y) ≡ stretch_bits offset s ++ option_to_list told) stored
      (subst (λ (o : ℕ). bits (offset_from o s.begin) (s.samples ++ z ∷ [])
      ≡ bits (offset_from o s.begin) s.samples ++ option_to_list told) slices e)

  pub bits_stay : bits (offset_from slicer.offset s.begin) (s.samples ++ z ∷ [])
      ≡ bits (offset_from slicer.offset s.begin) s.samples ++ []
      → stretch_bits offset s ≡ stretch_bits offset (with_sample s x)
  bits_stay e = sym (bits_more None e ∙ append-nil (stretch_bits offset s))

  -- whether the sample is the last of a window
  pub window_more : (told : Option Bool)
      → (IsSome told ↔ EndsWindow (offset_from slicer.offset s.begin) (s.samples ++ z ∷ []))
      → (IsSome told ↔ EndsWindow (offset_from offset s.begin) (s.samples ++ x ∷ []))
  window_more told e =
      subst (λ (y : ℤ). IsSome told ↔ EndsWindow (offset_from offset s.begin) (s.samples ++ y ∷ [])) stored
      (subst (λ (o : ℕ). IsSome told ↔ EndsWindow (offset_from o s.begin) (s.samples ++ z ∷ [])) slices e)

-- a frame that the deframer's event tells ends with the sample
pub ends_last : (offset : ℕ) (s : Stretch) (x : ℤ) (bit : Bool) (event : Event)
    → stretch_bits offset (with_sample s x) ≡ stretch_bits offset s ++ bit ∷ []
    → EndsWindow (offset_from offset s.begin) (s.samples ++ x ∷ [])
    → EventAt (stretch_bits offset s ++ bit ∷ []) event
    → sameb the_type event Frame ≡ true
    → (octets : List ℕ) × EndsLast offset (with_sample s x) octets
ends_last offset s x bit event more window told same =
    let at : EventAt (stretch_bits offset (with_sample s x)) Frame
    = subst (λ (b : List Bool). EventAt b Frame) (sym more)
    (subst (EventAt (stretch_bits offset s ++ bit ∷ [])) (sym (frame_by_test event same)) told) in
    (at.0, record { window = window; frame = at.1 })
