use Rattle.fx25_receiver.proofs.Common.{subst, sym, HeldLane, LaneStandsFor, bits_of}
use Rattle.fx25_receiver.proofs.lane.Lane.is_idle.Goals as goal

pub returns : goal.returns
returns c = λ tones numbers stands idle.
    let stood = subst (λ (held : HeldLane). LaneStandsFor held tones) (sym c.self.view_is) stands in
    c.is_idle.ensures (bits_of tones) numbers stood.reader idle
