use Rattle.slicer_bank.proofs.Common.{◌≡◌, ℕ, List, Bool, [], ◌∷◌, ◌++◌, true, ◌∙◌, subst, Tone, bits_of, EndsFrame}
use Rattle.slicer_bank.proofs.Common.{HoldsFrame, HeldToneLane, ToneLaneStandsFor}
use Rattle.hdlc_framer.proofs.FrameTests.{test_of_frame}
use Rattle.slicer_bank.proofs.tone_lane.ToneLane.push.Goals as goal

pub returns-clause-frame : goal.returns-clause-frame
returns-clause-frame c =
    let P : HeldToneLane → Type 0 = λ old. (tones : List Tone) (octets : List ℕ) → ToneLaneStandsFor old tones
    → EndsFrame (bits_of (tones ++ c.args.tone ∷ [])) octets → (c.eq.result ≡ true)
    × HoldsFrame c.push.new.self octets in
    subst P c.self.view_is (λ tones octets h ends.
    let more : bits_of (tones ++ c.args.tone ∷ []) ≡ bits_of tones ++ c.step-bit.result ∷ [] =
    c.step-bit.ensures.bits tones h.before in
    let last : EndsFrame (bits_of tones ++ c.step-bit.result ∷ []) octets =
    subst (λ (b : List Bool). EndsFrame b octets) more ends in
    let told = c.push.ensures.event (bits_of tones) h.deframer in (
      c.eq.ensures ∙ test_of_frame (bits_of tones) c.step-bit.result c.push.result octets told last,
      c.push.ensures.frame (bits_of tones) octets h.deframer last,
    ))
