use Rattle.slicer_bank.proofs.Common.{sym, subst, ◌∙◌}
use Rattle.hdlc_framer.specs.Held.{StandsFor}
use Rattle.slicer_bank.specs.StretchLanes.{TonesStandFor}
use Rattle.slicer_bank.proofs.StretchLemmas.{no_bits}
use Rattle.slicer_bank.proofs.ToneLemmas.{no_windows}
use Rattle.slicer_bank.proofs.stretch_lane.StretchLane.new.Goals as goal

pub returns-clause-stands_for : goal.returns-clause-stands_for
returns-clause-stands_for c = record {
  slicer = c.new.ensures.stands_for;
  deframer = subst (StandsFor c.listening.result) (sym (no_bits c.args.offset 0)) c.listening.ensures.stands_for;
  tones = subst (TonesStandFor c.tones_if.result) (sym (no_windows c.args.offset 0)) c.tones_if.ensures.stands_for;
}

pub returns-clause-listens : goal.returns-clause-listens
returns-clause-listens c = record {
  flags = c.listening.ensures.flags ∙ c.flags.ensures.flags;
  tones = c.tones_if.ensures.asked ∙ c.listens_for_tones.ensures;
}
