-- One piece after another.
use Rattle.channel_bench.proofs.Common.{sym, ◌∙◌, subst, take, take_all, told_pieces, StandsForSide}
use Rattle.channel_bench.proofs.HearLemmas.{told_pieces_more}
use Rattle.channel_bench.proofs.side.Side.tell.Goals as goal

pub loop-piece-preserved : goal.loop-piece-preserved
loop-piece-preserved c = record {
  told = λ end side h.
      subst (λ s. StandsForSide end c.take.new.self s)
      (sym (told_pieces_more c.args.pieces.now c.loop-piece.piece-index c.piece-item.result c.piece-item.result side
      c.loop-piece-test.true c.piece-item.is))
      (c.in_ok-take.ensures.told end (told_pieces (take c.loop-piece.piece-index c.args.pieces.now) side)
      (c.loop-piece.invariant.told end side h));
  end = c.take.ensures.end ∙ c.loop-piece.invariant.end;
}

pub returns-clause-told : goal.returns-clause-told
returns-clause-told c = λ end side h.
    subst (λ xs. StandsForSide end c.loop-piece.self (told_pieces xs side))
    (take_all c.loop-piece.piece-index c.args.pieces.now c.loop-piece-test.false)
    (c.loop-piece.invariant.told end side h)
