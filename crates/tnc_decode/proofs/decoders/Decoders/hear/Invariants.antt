-- What the samples so far settle, and how far the decoder is.
use Rattle.tnc_decode.proofs.Common.{◌≡◌, ◌≤◌, ◌+◌, ◌-◌, ◌++◌, List, ℤ, length, take, false, position_of, Modem}
use Rattle.tnc_decode.proofs.Common.{HasDecoded, settled_count, AreGivenBetween}
use Rattle.tnc_decode.specs.Held.{finished_of}
use Rattle.tnc_decode.proofs.decoders.Decoders.hear.Given as goal

abbrev pub invariant-loop-done : goal.invariant-loop-done
invariant-loop-done g l = record {
  within : l.done ≤ length l.samples;
  given : (modem : Modem) (x : List ℤ) → HasDecoded modem l.initial.self x
      → HasDecoded modem l.self (x ++ take l.done l.samples)
      × AreGivenBetween modem (settled_count modem x) (settled_count modem (x ++ take l.done l.samples))
      (x ++ take l.done l.samples) l.items.items;
  position : position_of l.self ≤ position_of l.initial.self + l.done;
  unfinished : finished_of l.self ≡ false;
}

abbrev pub decreases-loop-done : goal.decreases-loop-done
decreases-loop-done g l = length l.samples - l.done
