-- The register has taken the octets so far.
use Rattle.hdlc_framer.proofs.Common.{◌≡◌, take, fold, after_octet}
use Rattle.hdlc_framer.proofs.check_sequence.fcs.Given as goal

abbrev pub invariant-loop-octet : goal.invariant-loop-octet
invariant-loop-octet l = l.check ≡ fold after_octet 65535 (take l.octet-index l.octets)
