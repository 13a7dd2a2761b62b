use Rattle.fx25_ring.proofs.Common.{ℕ, ◌↔◌, BlockLanesListen, HearsStation, answers_of, block_answers, last_stretch, subst}
use Rattle.std.proofs.Common.{IsTrue}
use Rattle.fx25_ring.specs.Held.{HeldReceiver, flags_of_blocks}
use Rattle.fx25_ring.proofs.receiver.Fx25RingReceiver.busy.Goals as goal

pub returns : goal.returns
returns c =
    let P : HeldReceiver → Type 0 = λ now. (len : ℕ) → BlockLanesListen len now
    → IsTrue c.busy.result ↔ HearsStation (flags_of_blocks now) (last_stretch (block_answers len now)) in
    subst P c.self.view_is (λ len h. c.busy.ensures (last_stretch (answers_of len c.self.inside.reader)) h.listen)
