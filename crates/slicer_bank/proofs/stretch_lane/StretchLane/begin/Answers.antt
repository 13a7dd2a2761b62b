use Rattle.slicer_bank.proofs.Common.{sym, subst}
use Rattle.hdlc_framer.specs.Held.{StandsFor}
use Rattle.slicer_bank.specs.StretchLanes.{TonesStandFor}
use Rattle.slicer_bank.proofs.StretchLemmas.{no_bits}
use Rattle.slicer_bank.proofs.ToneLemmas.{no_windows}
use Rattle.slicer_bank.proofs.stretch_lane.StretchLane.begin.Goals as goal

pub returns-clause-stands_for : goal.returns-clause-stands_for
returns-clause-stands_for c = record {
  slicer = c.skip.ensures.stands_for;
  deframer = subst (StandsFor c.reset.new.self) (sym (no_bits c.args.self.now.offset c.args.to))
      c.reset.ensures.stands_for;
  tones = subst (TonesStandFor c.restart.new.tones) (sym (no_windows c.args.self.now.offset c.args.to))
      c.restart.ensures.stands_for;
}
