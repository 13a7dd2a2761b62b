-- The units so far.
use Rattle.fx25_sender.proofs.Common.{◌≡◌, ◌++◌, take, flat_map, flags, unit}
use Rattle.fx25_sender.proofs.body.fx25_body.Given as goal

abbrev pub invariant-loop-frame : goal.invariant-loop-frame
invariant-loop-frame l = l.bits.items
    ≡ flags l.fn.opening ++ flat_map (unit l.fn.checks) (take l.frame-index l.frames)
