-- The table is that of the eight steps.
use Rattle.hdlc_framer.proofs.Common.{arith, shifted, step_of}
use Rattle.std.proofs.lemmas.List.FromFn.{get_or-map-range_with_len}
use Rattle.hdlc_framer.proofs.check_sequence.step.Goals as goal

pub returns : goal.returns
unfolding shifted step_of
returns c = get_or-map-range_with_len step_of 0 256 c.args.octet c.args.octet 0 (omega arith) (omega arith)
