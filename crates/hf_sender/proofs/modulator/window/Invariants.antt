-- The samples so far.
use Rattle.hf_sender.proofs.Common.{◌≡◌, length, take}
use Rattle.hf_sender.proofs.WaveLemmas.{samples_below}
use Rattle.hf_sender.proofs.modulator.window.Given as goal

abbrev pub invariant-loop-place : goal.invariant-loop-place
invariant-loop-place l = record {
  samples : take l.place l.window ≡ samples_below l.place l.level l.phase l.fn.tone;
  whole : length l.window ≡ 32;
}
