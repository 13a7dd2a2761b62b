-- Whether another station is heard in samples.
use Rattle.std.specs.Prelude.{ℕ, ◌<◌, ℤ, List}
use Rattle.hdlc_framer.specs.Carrier.{HoldsCarrier}
use Rattle.hf_modem.specs.Windows.{bits}

-- the bits at some offset hold a carrier that so many flags in a row show
pub record HearsCarrier (flags : ℕ) (x : List ℤ) : Type 0 where
  pub offset : ℕ
  pub small : offset < 32
  pub carrier : HoldsCarrier flags (bits offset x)
