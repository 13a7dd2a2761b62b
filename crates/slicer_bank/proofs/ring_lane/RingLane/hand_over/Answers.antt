use Rattle.slicer_bank.proofs.Common.{refl}
use Rattle.slicer_bank.proofs.ring_lane.RingLane.hand_over.Goals as goal

pub returns-then-self-clause-alike : goal.returns-then-self-clause-alike
returns-then-self-clause-alike c = record { reader = refl; lane = refl; ended = refl; spent = refl }

pub returns-in_err-append-clause-alike : goal.returns-in_err-append-clause-alike
returns-in_err-append-clause-alike c = record { reader = refl; lane = refl; ended = refl; spent = refl }

pub returns-in_err-append-2-clause-alike : goal.returns-in_err-append-2-clause-alike
returns-in_err-append-2-clause-alike c = record { reader = refl; lane = refl; ended = refl; spent = refl }

pub returns-clause-alike : goal.returns-clause-alike
returns-clause-alike c = record { reader = refl; lane = refl; ended = refl; spent = refl }
