use Rattle.fx25_receiver.proofs.Common.{subst, sym, HeldLane, KnowsNumbers, LaneStandsFor, bits_of}
use Rattle.fx25_receiver.proofs.lane.Lane.block.Goals as goal

pub returns-clause-frame : goal.returns-clause-frame
returns-clause-frame c = λ tones numbers stands knows.
    let stood = subst (λ (held : HeldLane). LaneStandsFor held tones) (sym c.self.view_is) stands in
    let known = subst (λ (held : HeldLane). KnowsNumbers held.reader held.certainties numbers) (sym c.self.view_is) knows in
    c.frame.ensures.frame (bits_of tones) numbers stood.reader known

pub returns-clause-none : goal.returns-clause-none
returns-clause-none c = λ tones numbers stands knows.
    let stood = subst (λ (held : HeldLane). LaneStandsFor held tones) (sym c.self.view_is) stands in
    let known = subst (λ (held : HeldLane). KnowsNumbers held.reader held.certainties numbers) (sym c.self.view_is) knows in
    c.frame.ensures.none (bits_of tones) numbers stood.reader known
