use Rattle.link_machine.proofs.Common.{◌≡◌, ◌+◌, ◌≤◌, ◌++◌, length, map, Incoming, IsIncoming, StandsForIncoming, Given}
use Rattle.link_machine.proofs.Common.{run, frames_left, told_left}
use Rattle.link_machine.proofs.RunLemmas.{MovedSome}
use Rattle.link_machine.proofs.receiving.give_run.Given as goal

abbrev pub invariant-loop-packet : goal.invariant-loop-packet
invariant-loop-packet l = record {
  formed : IsIncoming l.incoming;
  told : l.room.told.items ++ map Given (run l.incoming.places)
      ≡ l.fn.room.told.items ++ map Given (run l.fn.incoming.places);
  frames : l.room.frames ≡ l.fn.room.frames;
  stands : (store : Incoming) → StandsForIncoming l.fn.incoming store → MovedSome l.incoming store;
  room : length (run l.incoming.places) ≤ told_left l.room;
  used : told_left l.fn.room + length (run l.incoming.places) ≤ told_left l.room + length (run l.fn.incoming.places);
  frames_same : frames_left l.fn.room ≤ frames_left l.room;
}

abbrev pub decreases-loop-packet : goal.decreases-loop-packet
decreases-loop-packet l = length (run l.incoming.places)
