-- The bits so far.
use Rattle.tnc_encode.proofs.Common.{◌≡◌, take}
use Rattle.nrzi_bits.specs.Line.{line, last_tone}
use Rattle.afsk_modulator.specs.Modulation.{IsBitPhase}
use Rattle.tnc_encode.proofs.WindowLemmas.{WaveSoFar}
use Rattle.tnc_encode.proofs.bell202.modulated.Given as goal

abbrev pub invariant-loop-bit : goal.invariant-loop-bit
invariant-loop-bit l = record {
  wave : WaveSoFar l.level l.phase (take l.bit-index l.bits) l.samples.items;
  tone : l.line ≡ last_tone (line (take l.bit-index l.bits));
  begins : IsBitPhase l.phase;
}
