use Rattle.slicer_bank.proofs.Common.{vec_capacity, vec_len}
use Rattle.slicer_bank.proofs.RingBankLemmas.{HasGivenBack}
use Rattle.slicer_bank.proofs.ring_bank.RingBank.finish.Given as goal

abbrev pub invariant-loop-lane : goal.invariant-loop-lane
invariant-loop-lane l = HasGivenBack l.fn.self.lanes l.lane-iterator.rest.items l.lane-iterator.rest.len l.room.items
    (vec_len l.room) (vec_capacity l.room)
