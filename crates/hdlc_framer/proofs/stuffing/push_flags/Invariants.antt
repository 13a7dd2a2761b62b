use Rattle.hdlc_framer.proofs.Common.{◌≡◌, ◌++◌, flags}
use Rattle.hdlc_framer.proofs.stuffing.push_flags.Given as goal

abbrev pub invariant-loop : goal.invariant-loop
invariant-loop l = l.bits.items ≡ l.initial.bits.items ++ flags l.counter
