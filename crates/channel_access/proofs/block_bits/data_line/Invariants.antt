-- The bits so far are the first ones of the line.
use Rattle.channel_access.proofs.Common.{◌≡◌, ◌≤◌, length}
use Rattle.channel_access.specs.DataLine.{HasPut}
use Rattle.channel_access.proofs.block_bits.data_line.Given as goal

abbrev pub invariant-loop-place : goal.invariant-loop-place
invariant-loop-place l = record {
  put : HasPut l.octets l.line l.place l.bits.frame l.bits.flags;
  flags : l.bits.flags ≤ l.place;
  size : length l.line ≡ 1912;
}
