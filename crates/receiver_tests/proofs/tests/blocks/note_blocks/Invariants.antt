use Rattle.std.proofs.Common.{◌≡◌, ◌+◌, ◌<◌, ◌^◌, false, length}
use Rattle.receiver_tests.proofs.tests.blocks.note_blocks.Given as goal

abbrev pub invariant-loop-rest : goal.invariant-loop-rest
invariant-loop-rest g l = record {
  unfinished : g.D.BlockDecoder.finished l.decoder ≡ false;
  room : g.D.BlockDecoder.position l.decoder + length l.rest < 2 ^ 48;
}

abbrev pub decreases-loop-rest : goal.decreases-loop-rest
decreases-loop-rest g l = length l.rest
