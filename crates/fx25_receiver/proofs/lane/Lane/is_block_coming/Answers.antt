use Rattle.fx25_receiver.proofs.Common.{subst, sym, HeldLane, LaneStandsFor, bits_of}
use Rattle.fx25_receiver.proofs.lane.Lane.is_block_coming.Goals as goal

pub returns : goal.returns
returns c = λ tones stands.
    let stood = subst (λ (held : HeldLane). LaneStandsFor held tones) (sym c.self.view_is) stands in
    c.is_block_coming.ensures (bits_of tones) stood.reader
