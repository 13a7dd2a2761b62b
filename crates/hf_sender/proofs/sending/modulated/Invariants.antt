-- The samples so far.
use Rattle.hf_sender.proofs.Common.{◌≡◌, take, line, last_tone, at_level, wave, hf_start, hf_after}
use Rattle.hf_sender.proofs.sending.modulated.Given as goal

abbrev pub invariant-loop-bit : goal.invariant-loop-bit
invariant-loop-bit l = record {
  samples : l.samples.items ≡ at_level l.fn.level (wave (line (take l.bit-index l.bits)));
  tone : l.line ≡ last_tone (line (take l.bit-index l.bits));
  modulator : l.modulator ≡ hf_after (hf_start l.fn.level) (line (take l.bit-index l.bits));
}
