-- What a deframer that puts bits off keeps: what the deframer inside has taken, and up to eight bits that wait.
use Rattle.std.specs.Prelude.{◌≡◌, ℕ, ◌-◌, Bool, false, List, ◌++◌, length, drop, replicate}
use Rattle.hdlc_framer.specs.BitOrder.{octet_bits}
use Rattle.hdlc_framer.specs.Held.{Held as HeldDeframer, StandsFor as DeframerStandsFor}

-- the deframer, the last eight bits as an octet, and how many of them wait
pub record HeldLate : Type 0 where
  pub deframer : HeldDeframer
  pub last : ℕ
  pub waiting : ℕ

-- the last eight of eight zeros and these bits
abbrev pub last_eight : List Bool → List Bool
last_eight bits = drop (length bits) (replicate 8 false ++ bits)

-- the deframer has taken all bits but the last ones, so many, which wait
pub record StandsFor (deframer : HeldDeframer) (last waiting : ℕ) (bits : List Bool) : Type 0 where
  pub taken : List Bool
  pub bits_are : bits ≡ taken ++ drop (8 - waiting) (octet_bits last)
  pub deframer_stands : DeframerStandsFor deframer taken
  pub last_is : octet_bits last ≡ last_eight bits
