use Rattle.hf_modem.proofs.Common.{ℕ, ℤ, ◌<◌, List, All, bits}
use Rattle.hdlc_framer.specs.Carrier.{HoldsCarrier}
use Rattle.hf_modem.specs.Held.{AsksFor, LanesStandFor}
use Rattle.hf_modem.proofs.bank.is_some_busy.Given as goal

abbrev pub invariant-loop-lane : goal.invariant-loop-lane
invariant-loop-lane l = (flags : ℕ) (x : List ℤ) → LanesStandFor l.lanes x → All (AsksFor flags) l.lanes → (k : ℕ)
    → k < l.lane-index → HoldsCarrier flags (bits k x) → ⊥
