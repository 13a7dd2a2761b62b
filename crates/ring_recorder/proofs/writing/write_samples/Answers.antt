use Rattle.std.proofs.Common.{sym}
use Rattle.ring_recorder.proofs.WriteLemmas.{on_err, cut, wrote_piece, wrote_part}
use Rattle.ring_recorder.proofs.writing.write_samples.Goals as goal

pub returns-in_err-write_piece-clause-partly : goal.returns-in_err-write_piece-clause-partly
returns-in_err-write_piece-clause-partly g c before is =
    on_err c.from_residual.result (wrote_part c.args.samples.now c.pieces.rest.now c.split_at.result.0.now
    c.split_at.result.1.now (g.O.Sink.told c.args.output.now).written (g.O.Sink.told c.pieces.output).written
    (g.O.Sink.told c.write_piece.new.output).written (g.O.Sink.told c.args.output.now).faults
    (g.O.Sink.told c.pieces.output).faults
    c.pieces.invariant (cut _ _ _ _ c.split_at.ensures.front c.split_at.ensures.back) c.in_err-write_piece.ensures.partly before is)

pub pieces-preserved : goal.pieces-preserved
pieces-preserved g c =
    wrote_piece c.args.samples.now c.pieces.rest.now c.split_at.result.0.now c.split_at.result.1.now
    (g.O.Sink.told c.args.output.now).written (g.O.Sink.told c.pieces.output).written
    (g.O.Sink.told c.write_piece.new.output).written
    (g.O.Sink.told c.args.output.now).faults (g.O.Sink.told c.pieces.output).faults
    (g.O.Sink.told c.write_piece.new.output).faults
    c.pieces.invariant (cut _ _ _ _ c.split_at.ensures.front c.split_at.ensures.back) c.in_ok-write_piece.ensures.appends c.in_ok-write_piece.ensures.faultless
