-- The frames so far have been sent.
use Rattle.hdlc_framer.proofs.Common.{◌≡◌, ◌++◌, take, flags, joined}
use Rattle.hdlc_framer.proofs.stuffing.stuff.Given as goal

abbrev pub invariant-loop-place : goal.invariant-loop-place
invariant-loop-place l = l.bits.items ≡ flags l.opening ++ joined (take l.place l.frames)
