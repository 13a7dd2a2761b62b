use Rattle.std.proofs.Common.{ℕ, ◌<◌, [], get_or}
use Rattle.hdlc_framer.specs.FrameLength.{IsBadLength}
use Rattle.afsk_modulator.proofs.sending.first_bad_length.Given as goal

abbrev pub invariant-loop-index : goal.invariant-loop-index
invariant-loop-index l = (k : ℕ) → k < l.index → ¬ IsBadLength (get_or l.frames k [])
