-- The host program is told the pieces so far.
use Rattle.channel_bench.proofs.Common.{◌≡◌, take, End, SideState, told_pieces, StandsForSide}
use Rattle.channel_bench.proofs.side.Side.tell.Given as goal

abbrev pub invariant-loop-piece : goal.invariant-loop-piece
invariant-loop-piece l = record {
  told : (end : End) (side : SideState) → StandsForSide end l.fn.self side
      → StandsForSide end l.self (told_pieces (take l.piece-index l.pieces) side);
  end : l.self.end ≡ l.fn.self.end;
}
