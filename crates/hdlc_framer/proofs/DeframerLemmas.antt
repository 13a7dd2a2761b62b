-- One bit of a deframer, from what it holds.
use Rattle.hdlc_framer.proofs.Common.{◌≡◌, ℕ, Bool, true, false, List, [], ◌∷◌, ◌++◌, refl, ap, subst, ◌∙◌, sym}
use Rattle.hdlc_framer.proofs.Common.{false≢true, Event, Flag, Abort, Frame, EndsFrame, EventAt, Line, Held, StandsFor}
use Rattle.hdlc_framer.proofs.Common.{HoldsFrame, next_line, open_line, line_after, line_of, content_after_zero}
use Rattle.hdlc_framer.proofs.Common.{ClosesFrame, EndsOnZero, LineEvent, HeldCarrier, next_carrier}
use denote.Enum.Bare.{sameb}
use Rattle.hdlc_framer.specs.contracts.event.Event.{the_type}
use Rattle.hdlc_framer.specs.declared.event.Event.TheVariants.{None as NoEvent}
use Rattle.hdlc_framer.proofs.CarrierLemmas.{carrier_next}
use Rattle.hdlc_framer.proofs.Lines.{at, line_after-push}
use Rattle.hdlc_framer.proofs.FrameEnds.{event_told, frame_told}

-- a flag opens the line
opened : (line : Line) → EndsOnZero line → open_line ≡ next_line line false
opened line ends =
    sym (ap (λ n. at 0 (content_after_zero n line.after_zero line.content)) ends.six
    ∙ ap (λ z. at 0 (content_after_zero 6 z line.content)) ends.after_zero)

module _ (held : Held) (b : List Bool) (bit : Bool) where
  pub event_is : (event : Event) → StandsFor held b → LineEvent (line_of held) bit event → EventAt (b ++ bit ∷ []) event
  event_is event stands told = event_told b bit event (subst (λ line. LineEvent line bit event) stands.line told)

  -- a bit that ends no frame
  pub stands_next : (event : Event) → StandsFor held b → LineEvent (line_of held) bit event
      → StandsFor (record {
        line = next_line (line_of held) bit;
        framed = false;
        carrier = next_carrier held.carrier event;
      }) (b ++ bit ∷ [])
  stands_next event stands told = record {
    line = ap (λ line. next_line line bit) stands.line ∙ sym (line_after-push b bit);
    carrier = carrier_next held.carrier b bit event stands.carrier (event_is event stands told);
  }

frame_event : (line : Line) (bit : Bool) (event : Event) → Frame ≡ event → LineEvent line bit event
    → (bit ≡ false) × EndsOnZero line
frame_event line bit event is told = by_bit bit (subst (LineEvent line bit) (sym is) told)
  where
    by_bit : (bit : Bool) → LineEvent line bit Frame → (bit ≡ false) × EndsOnZero line
    by_bit true told = absurd told
    by_bit false told = (refl, told.0)

-- the bit that ends a frame
pub stands_framed : (held : Held) (b : List Bool) (bit : Bool) (event : Event) → Frame ≡ event → StandsFor held b
    → LineEvent (line_of held) bit event
    → StandsFor (record { line = line_of held; framed = true; carrier = next_carrier held.carrier event })
    (b ++ bit ∷ [])
stands_framed held b bit event is stands told =
    let ends = frame_event (line_of held) bit event is told in
    record {
      carrier = carrier_next held.carrier b bit event stands.carrier (event_is held b bit event stands told);
      line = opened (line_of held) ends.1 ∙ ap (next_line (line_of held)) (sym ends.0)
          ∙ ap (λ line. next_line line bit) stands.line ∙ sym (line_after-push b bit);
    }

-- if a frame ends, the line before the bit has it
pub frame_held : (held : Held) (b : List Bool) (bit : Bool) (octets : List ℕ) → StandsFor held b
    → EndsFrame (b ++ bit ∷ []) octets
    → (carrier : HeldCarrier) → HoldsFrame (record { line = line_of held; framed = true; carrier = carrier }) octets
frame_held held b bit octets stands ends carrier =
    record { framed = refl; content = ap (λ line. line.content) stands.line ∙ (frame_told b bit octets ends).2.content }

-- and the event is a frame
pub frame_comes : (held : Held) (b : List Bool) (bit : Bool) (octets : List ℕ) (event : Event) → StandsFor held b
    → EndsFrame (b ++ bit ∷ []) octets → LineEvent (line_of held) bit event → event ≡ Frame
frame_comes held b bit octets event stands ends told =
    let known = frame_told b bit octets ends in
    let at_zero : LineEvent (line_after b) false event =
    subst (λ t. LineEvent (line_after b) t event) known.0
    (subst (λ line. LineEvent line bit event) stands.line told) in
    by_event (line_after b) event known.1 known.2 at_zero
  where
    by_event : (line : Line) (event : Event) → EndsOnZero line → ClosesFrame line octets → LineEvent line false event
        → event ≡ Frame
    by_event line NoEvent on_zero closes told = absurd (told on_zero)
    by_event line Flag on_zero closes told = absurd (told.1 octets closes)
    by_event line Abort on_zero closes told = absurd told
    by_event line Frame on_zero closes told = refl

-- what `==` tells of an event
pub frame_by_test : (event : Event) → sameb the_type event Frame ≡ true → Frame ≡ event
frame_by_test NoEvent same = absurd (false≢true same)
frame_by_test Flag same = absurd (false≢true same)
frame_by_test Abort same = absurd (false≢true same)
frame_by_test Frame same = refl

pub test_by_frame : (event : Event) → event ≡ Frame → sameb the_type event Frame ≡ true
test_by_frame event is = ap (λ e. sameb the_type e Frame) is
