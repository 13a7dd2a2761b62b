-- The samples so far.
use Rattle.std.proofs.Common.{◌≡◌, length, take}
use Rattle.afsk_modulator.proofs.WindowLemmas.{samples_below}
use Rattle.afsk_modulator.proofs.modulator.window.Given as goal

abbrev pub invariant-loop-place : goal.invariant-loop-place
invariant-loop-place l = record {
  samples : take l.place l.window ≡ samples_below l.place (record { phase = l.phase; level = l.level }) l.fn.tone;
  whole : length l.window ≡ 8;
}
