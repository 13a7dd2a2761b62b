use Rattle.hdlc_framer.proofs.BusyLemmas.{busy_of_held, held_of_busy}
use Rattle.hdlc_framer.proofs.laws.one_flag_makes_busy.Goals as goal

pub returns : goal.returns
returns c = λ bits. (busy_of_held bits, held_of_busy bits)
