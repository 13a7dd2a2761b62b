use Rattle.slicer_bank.proofs.Common.{◌≡◌, ℕ, List, [], ◌∷◌, ◌++◌, true, subst, Tone, bits_of, EndsFrame}
use Rattle.slicer_bank.proofs.Common.{HoldsFrame, HeldLane, LaneStandsFor}
use Rattle.slicer_bank.proofs.lane.Lane.push.Goals as goal

pub returns-clause-frame : goal.returns-clause-frame
returns-clause-frame c =
    let P : HeldLane → Type 0 = λ old. (tones : List Tone) (octets : List ℕ) → LaneStandsFor old tones
    → EndsFrame (bits_of (tones ++ c.args.tone ∷ [])) octets
    → (c.push.result ≡ true) × HoldsFrame c.push.new.self.deframer octets in
    subst P c.self.view_is (λ tones octets h ends. c.push.ensures.frame tones octets h ends)
