use Rattle.tnc_engine.proofs.Common.{◌≡◌, ◌+◌, ◌++◌, [], length, length-append, take, Err, refl, sym, subst, ap, ◌∙◌}
use Rattle.tnc_engine.proofs.Common.{arith, err_from_is_err_and, IsEnded}
use Rattle.std.proofs.Common.{length-take-le}
use Rattle.tnc_engine.proofs.MakingLemmas.{Progress, ended_finish, ended_piece, ended_reading, progress_more}
use Rattle.tnc_engine.proofs.MakingLemmas.{progress_none}
use Rattle.tnc_engine.proofs.making.make.Goals as goal

pub reading-init : goal.reading-init
reading-init g c = record {
  so_far = λ words whole holds left.
      progress_none (g.M.Maker.making words) (c.requires.laws words) (g.M.Maker.holds c.args.maker.now words) whole
      (g.I.Source.told c.args.input.now).left (g.O.Sink.told c.args.output.now).written left holds;
  held = (c.requires.new.0, [], c.requires.new.1, (c.requires.laws c.requires.new.0).good, refl);
  bound = omega arith;
  size = refl;
  read_faultless = refl;
  write_faultless = refl;
}

-- a read that fails
pub returns-in_err-count-clause-ended : goal.returns-in_err-count-clause-ended
returns-in_err-count-clause-ended g c = λ words octets holds left.
    let inv = c.reading.invariant in
    let making = g.M.Maker.making words in
    let told = err_from_is_err_and c.from_residual.result c.from_residual.ensures.1 in
    let was = (g.O.Sink.told c.args.output.now).written in
    let mid = (g.O.Sink.told c.reading.output).written in
    let next = (g.I.Source.told c.read_piece.new.input).left in
    subst (IsEnded making (length c.args.buffer.now) octets next was mid) (sym (told.1 ∙ ap Err told.2))
    (ended_reading making (c.requires.laws words) (g.M.Maker.holds c.reading.maker words) octets
    (length c.args.buffer.now) (g.I.Source.told c.reading.input).left was mid c.reading.total
    (inv.so_far words octets holds left) inv.bound next c.in_err-count.field-0.0
    c.in_err-count.ensures.too_long c.in_err-count.ensures.kept c.in_err-count.ensures.write
    c.in_err-count.ensures.memory c.in_err-count.ensures.only)

-- the end of the input
pub make_last-requires : goal.make_last-requires
make_last-requires g c =
    let held = c.reading.invariant.held in
    let bound = c.reading.invariant.bound in
    let size = held.4 in
    record { held = (held.0, held.1, held.2, omega (arith, bound, size)) }

pub returns-then-count-eq0-clause-ended : goal.returns-then-count-eq0-clause-ended
returns-then-count-eq0-clause-ended g c = λ words octets holds left.
    let inv = c.reading.invariant in
    let p = inv.so_far words octets holds left in
    let piece = c.in_ok-count.ensures.piece p.taken.rest p.taken.left_over in
    ended_finish (g.M.Maker.making words) (c.requires.laws words) (g.M.Maker.holds c.reading.maker words) octets
    (length c.args.buffer.now)
    (g.I.Source.told c.reading.input).left (g.O.Sink.told c.args.output.now).written
    (g.O.Sink.told c.reading.output).written
    c.reading.total p inv.bound
    c.read_piece.new.buffer piece.0 (g.I.Source.told c.read_piece.new.input).left
    c.in_ok-count.count c.if-count-eq0.true piece.1 piece.2 piece.3
    (g.O.Sink.told c.make_last.new.output).written c.make_last.result
    (c.make_last.ensures.finished words p.read p.holds)

-- a piece
pub make_piece-requires-clause-held : goal.make_piece-requires-clause-held
make_piece-requires-clause-held g c =
    let held = c.reading.invariant.held in
    let a = c.in_ok-count.ensures.bound in
    let size : length (take c.in_ok-count.count c.read_piece.new.buffer) ≡ c.in_ok-count.count =
    length-take-le c.in_ok-count.count c.read_piece.new.buffer a.0 in
    let count = held.4 in
    let most = a.1 in
    (held.0, held.1, held.2, omega (arith, count, size, most))

pub returns-in_err-make_piece-clause-ended : goal.returns-in_err-make_piece-clause-ended
returns-in_err-make_piece-clause-ended g c = λ words octets holds left.
    let inv = c.reading.invariant in
    let making = g.M.Maker.making words in
    let p = inv.so_far words octets holds left in
    let piece = c.in_ok-count.ensures.piece p.taken.rest p.taken.left_over in
    let told = err_from_is_err_and c.from_residual-in_err-make_piece.result c.from_residual-in_err-make_piece.ensures.1
    in
    let was = (g.O.Sink.told c.args.output.now).written in
    let next = (g.I.Source.told c.read_piece.new.input).left in
    let now = (g.O.Sink.told c.make_piece.new.output).written in
    let a = c.in_ok-count.ensures.bound in
    let kept = inv.size in
    let b = c.read_piece.auto.buffer in
    let size : length (take c.in_ok-count.count c.read_piece.new.buffer) ≡ c.in_ok-count.count =
    length-take-le c.in_ok-count.count c.read_piece.new.buffer a.0 in
    subst (IsEnded making (length c.args.buffer.now) octets next was now) (sym (told.1 ∙ ap Err told.2))
    (ended_piece making (c.requires.laws words) (g.M.Maker.holds c.reading.maker words) octets
    (length c.args.buffer.now)
    (g.I.Source.told c.reading.input).left was (g.O.Sink.told c.reading.output).written c.reading.total p inv.bound
    (take c.in_ok-count.count c.read_piece.new.buffer) piece.0 next now piece.1 piece.2
    (omega (arith, size, a.0, b, kept)) (omega (arith, size, a.1)) c.in_err-make_piece.field-0.0
    (c.in_err-make_piece.ensures.taken words p.read p.holds p.good))

pub reading-preserved : goal.reading-preserved
reading-preserved g c =
    let inv = c.reading.invariant in
    let held = inv.held in
    let a = c.in_ok-count.ensures.bound in
    let b = c.read_piece.auto.buffer in
    let kept = inv.size in
    let size : length (take c.in_ok-count.count c.read_piece.new.buffer) ≡ c.in_ok-count.count =
    length-take-le c.in_ok-count.count c.read_piece.new.buffer a.0 in
    let count = held.4 in
    let later = c.in_ok-make_piece.ensures.goes held.0 held.1 held.2 held.3 in
    record {
      so_far = λ words whole holds left.
          let making = g.M.Maker.making words in
          let p = inv.so_far words whole holds left in
          let piece = c.in_ok-count.ensures.piece p.taken.rest p.taken.left_over in
          let goes = c.in_ok-make_piece.ensures.goes words p.read p.holds p.good in
          subst (λ n. Progress making (g.M.Maker.holds c.make_piece.new.maker words) whole
          (g.I.Source.told c.read_piece.new.input).left
          (g.O.Sink.told c.args.output.now).written (g.O.Sink.told c.make_piece.new.output).written
          (c.reading.total + n)) size
          (progress_more making (c.requires.laws words) (g.M.Maker.holds c.reading.maker words) whole
          (length c.args.buffer.now)
          (g.I.Source.told c.reading.input).left (g.O.Sink.told c.args.output.now).written
          (g.O.Sink.told c.reading.output).written
          c.reading.total p inv.bound
          (take c.in_ok-count.count c.read_piece.new.buffer) piece.0 (g.I.Source.told c.read_piece.new.input).left
          (g.O.Sink.told c.make_piece.new.output).written piece.1 piece.2
          (g.M.Maker.holds c.make_piece.new.maker words) goes.0 goes.1
          (c.in_ok-make_piece.ensures.taken words p.read p.holds p.good));
      held = (
        held.0,
        held.1 ++ take c.in_ok-count.count c.read_piece.new.buffer,
        later.0,
        later.1,
        length-append held.1 (take c.in_ok-count.count c.read_piece.new.buffer) ∙ omega (arith, size, count),
      );
      bound = a.1;
      size = b ∙ kept;
      read_faultless = c.in_ok-count.ensures.faultless ∙ inv.read_faultless;
      write_faultless = c.in_ok-make_piece.ensures.faultless ∙ inv.write_faultless;
    }
