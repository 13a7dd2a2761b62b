use Rattle.slicer_bank.proofs.Common.{◌≡◌, ℤ, Bool, None, Some, List, [], ◌∷◌, ◌++◌, ◌∙◌, refl, subst, sym, to_z, of_z}
use Rattle.slicer_bank.proofs.Common.{false≢true, to_z-of_z, w16, EndsFrame, frame_by_test, stretch_bits}
use Rattle.hdlc_framer.specs.Held.{StandsFor as DeframerStandsFor}
use Rattle.offset_slicers.specs.Held.{StandsFor as SlicerStandsFor}
use Rattle.hdlc_framer.proofs.FrameTests.{test_of_frame}
use Rattle.slicer_bank.proofs.SampleLemmas.{bits_more, bits_stay, window_more, ends_last}
use Rattle.slicer_bank.specs.Detection.{stretch_windows}
use Rattle.slicer_bank.proofs.ToneLemmas.{tones_stay, tones_more, next_told}
use Rattle.slicer_bank.proofs.stretch_lane.StretchLane.push.Goals as goal

pub returns-in_default-clause-stands_for : goal.returns-in_default-clause-stands_for
returns-in_default-clause-stands_for c = λ s h.
    let x : ℤ = c.args.sample in
    let z : ℤ = to_z w16 (of_z w16 x) in
    let stored : z ≡ x = to_z-of_z w16 x c.ranges.sample in
    let was = c.args.self.now in
    record {
      slicer = subst (λ (y : ℤ). SlicerStandsFor c.slice.new.self s.begin (s.samples ++ y ∷ [])) stored
          (c.slice.ensures.stands_for s.begin s.samples h.slicer);
      deframer = subst (DeframerStandsFor was.deframer)
          (bits_stay was.offset was.slicer was.slices x z stored s
          (c.in_default.ensures.bits s.begin s.samples h.slicer))
          h.deframer;
      tones = tones_stay was.tones was.offset s x (λ ends. absurd (false≢true ((window_more was.offset was.slicer
          was.slices x z stored s None (c.in_default.ensures.ends s.begin s.samples h.slicer)).1 ends))) h.tones;
    }

pub returns-in_default-clause-holds : goal.returns-in_default-clause-holds
returns-in_default-clause-holds c = λ e. absurd (false≢true e)

pub returns-in_default-clause-heard : goal.returns-in_default-clause-heard
returns-in_default-clause-heard c = λ s h e. absurd (false≢true e)

pub returns-in_default-clause-frame : goal.returns-in_default-clause-frame
returns-in_default-clause-frame c = λ s octets h ends.
    let x : ℤ = c.args.sample in
    let was = c.args.self.now in
    let both = window_more was.offset was.slicer was.slices x (to_z w16 (of_z w16 x))
    (to_z-of_z w16 x c.ranges.sample) s None (c.in_default.ensures.ends s.begin s.samples h.slicer) in
    absurd (false≢true (both.1 ends.window))

pub returns-clause-stands_for : goal.returns-clause-stands_for
returns-clause-stands_for c = λ s h.
    let x : ℤ = c.args.sample in
    let z : ℤ = to_z w16 (of_z w16 x) in
    let stored : z ≡ x = to_z-of_z w16 x c.ranges.sample in
    let was = c.args.self.now in
    let sliced = c.in-Some.sliced in
    record {
      slicer = subst (λ (y : ℤ). SlicerStandsFor c.slice.new.self s.begin (s.samples ++ y ∷ [])) stored
          (c.slice.ensures.stands_for s.begin s.samples h.slicer);
      deframer = subst (DeframerStandsFor c.push.new.self)
          (sym (bits_more was.offset was.slicer was.slices x z stored s (Some c.in-Some.sliced.bit)
          (c.in-Some.ensures.bits s.begin s.samples h.slicer)))
          (c.push.ensures.stands_for (stretch_bits was.offset s) h.deframer);
      tones = tones_more c.weigh.new.tones was.offset s x sliced.window
          ((window_more was.offset was.slicer was.slices x z stored s (Some sliced.bit)
          (c.in-Some.ensures.ends s.begin s.samples h.slicer)).0 refl)
          (next_told was.offset was.slicer.offset was.slices x z stored s sliced.window
          (c.in-Some.ensures.window s.begin s.samples h.slicer))
          (c.weigh.ensures.stands_for (stretch_windows was.offset s) h.tones);
    }

pub returns-clause-holds : goal.returns-clause-holds
returns-clause-holds c = λ e.
    c.push.ensures.holds (sym (frame_by_test c.push.result (sym c.eq.ensures ∙ e)))

pub returns-clause-heard : goal.returns-clause-heard
returns-clause-heard c = λ s h e.
    let x : ℤ = c.args.sample in
    let z : ℤ = to_z w16 (of_z w16 x) in
    let stored : z ≡ x = to_z-of_z w16 x c.ranges.sample in
    let was = c.args.self.now in
    let bit : Bool = c.in-Some.sliced.bit in
    ends_last was.offset s x bit c.push.result
    (bits_more was.offset was.slicer was.slices x z stored s (Some bit)
    (c.in-Some.ensures.bits s.begin s.samples h.slicer))
    ((window_more was.offset was.slicer was.slices x z stored s (Some bit)
    (c.in-Some.ensures.ends s.begin s.samples h.slicer)).0 refl)
    (c.push.ensures.event (stretch_bits was.offset s) h.deframer)
    (sym c.eq.ensures ∙ e)

pub returns-clause-frame : goal.returns-clause-frame
returns-clause-frame c = λ s octets h ends.
    let x : ℤ = c.args.sample in
    let was = c.args.self.now in
    let bit : Bool = c.in-Some.sliced.bit in
    let b : List Bool = stretch_bits was.offset s in
    let last : EndsFrame (b ++ bit ∷ []) octets
    = subst (λ (b : List Bool). EndsFrame b octets)
    (bits_more was.offset was.slicer was.slices x (to_z w16 (of_z w16 x)) (to_z-of_z w16 x c.ranges.sample) s (Some bit)
    (c.in-Some.ensures.bits s.begin s.samples h.slicer)) ends.frame in (
      c.eq.ensures ∙ test_of_frame b bit c.push.result octets (c.push.ensures.event b h.deframer) last,
      c.push.ensures.frame b octets h.deframer last,
    )
