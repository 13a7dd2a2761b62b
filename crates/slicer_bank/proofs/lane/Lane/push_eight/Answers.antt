use Rattle.slicer_bank.proofs.Common.{◌≡◌, ℕ, ◌+◌, ◌<◌, List, ◌++◌, take, true, subst, Tone, bits_of, EndsFrame, HeldLane}
use Rattle.slicer_bank.proofs.Common.{LaneStandsFor}
use Rattle.slicer_bank.proofs.lane.Lane.push_eight.Goals as goal

pub returns-clause-quiet : goal.returns-clause-quiet
returns-clause-quiet c =
    let P : HeldLane → Type 0 = λ old. (tones : List Tone) (k : ℕ) (octets : List ℕ) → LaneStandsFor old tones
    → c.push_eight.result ≡ true → k < 8 → ¬ EndsFrame (bits_of (tones ++ take (k + 1) c.args.eight.now)) octets in
    subst P c.self.view_is (λ tones k octets h same below. c.push_eight.ensures.quiet tones k octets h same below)
