-- What a bit that ends a frame is told as.
use Rattle.hdlc_framer.proofs.Common.{◌≡◌, ℕ, Bool, true, false, List, [], ◌∷◌, ◌++◌, ap, sym, ◌∙◌, arith, append_assoc}
use Rattle.hdlc_framer.proofs.Common.{refl, Event, Frame, Flag, Abort, flag, EndsFrame, frame_bits, EventAt, run_of_ones}
use Rattle.hdlc_framer.proofs.DeframerLemmas.{test_by_frame}
use Rattle.hdlc_framer.proofs.FrameEnds.{frame_told}
use Rattle.hdlc_framer.proofs.Lines.{run-push_zero}
use Rattle.hdlc_framer.specs.contracts.event.Event.{the_type}
use denote.Enum.Bare.{sameb}
use Rattle.hdlc_framer.specs.declared.event.Event.TheVariants.{None as NoEvent}

-- if a frame ends with a bit, its event says so
frame_is_told : (bits : List Bool) (bit : Bool) (event : Event) (octets : List ℕ)
    → EventAt (bits ++ bit ∷ []) event → EndsFrame (bits ++ bit ∷ []) octets → event ≡ Frame
frame_is_told bits bit Frame octets h e = refl
frame_is_told bits bit Flag octets h e = absurd (h.1 octets e)
frame_is_told bits bit Abort octets h e =
    let zero_bit : bit ≡ false = (frame_told bits bit octets e).0 in
    let none : run_of_ones (bits ++ bit ∷ []) ≡ 0 = ap (λ b. run_of_ones (bits ++ b ∷ [])) zero_bit
    ∙ run-push_zero bits in
    absurd (omega arith)
frame_is_told bits bit NoEvent octets h e =
    absurd (h.0 (
      e.0 ++ (flag ++ frame_bits octets),
      e.1
          ∙ ap (λ t. e.0 ++ t) (sym (append_assoc flag (frame_bits octets) flag))
          ∙ sym (append_assoc e.0 (flag ++ frame_bits octets) flag),
    ))

-- and so does the test of that event
pub test_of_frame : (bits : List Bool) (bit : Bool) (event : Event) (octets : List ℕ)
    → EventAt (bits ++ bit ∷ []) event → EndsFrame (bits ++ bit ∷ []) octets → sameb the_type event Frame ≡ true
test_of_frame bits bit event octets h e = test_by_frame event (frame_is_told bits bit event octets h e)
