-- When a receiver hears a carrier, by the bits alone (AX.25 2.2 sections 3.1, 3.9 and 6.4.2 leave it to the modem):
-- flags show that another station sends, and an abort or a long stretch without a flag that it sends no more.
use Rattle.std.specs.Prelude.{ℕ, zero, suc, ◌+◌, ◌-◌, ◌<◌, ◌≤◌, ◌⊎◌, ⊤, Bool, List, length, take}
use Rattle.hdlc_framer.specs.Frames.{EndsFlag, EndsAbort}

-- So many flags in a row end with the last bit. Two in a row share a 0, so that the first ends 7 bits before the
-- second, or follow one another at once, so that it ends 8 bits before.
abbrev pub EndsFlags : ℕ → List Bool → Type 0
EndsFlags zero bits = ⊤
EndsFlags (suc zero) bits = EndsFlag bits
EndsFlags (suc (suc n)) bits =
    EndsFlag bits × (EndsFlags (suc n) (take (length bits - 7) bits) ⊎ EndsFlags (suc n) (take (length bits - 8) bits))

-- after so many bits without the end of a flag a carrier is lost
abbrev pub most_quiet : ℕ
most_quiet = 10000

-- none of the last 10,000 bits ends a flag
abbrev pub IsQuiet : List Bool → Type 0
IsQuiet bits = (k : ℕ) → k < most_quiet → ¬ EndsFlag (take (length bits - k) bits)

-- a carrier is lost with the last bit: an abort ends with it, or the line has been quiet for 10,000 bits
abbrev pub IsLost : List Bool → Type 0
IsLost bits = EndsAbort bits ⊎ IsQuiet bits

-- A carrier is held: so many flags in a row ended at some place, and it was not lost since.
pub record HoldsCarrier (flags : ℕ) (bits : List Bool) : Type 0 where
  pub place : ℕ
  pub within : place ≤ length bits
  pub found : EndsFlags flags (take place bits)
  pub kept : (later : ℕ) → place < later → later ≤ length bits → ¬ IsLost (take later bits)

-- a flag has come and, since the last one, neither seven 1s in a row nor 10,000 bits
pub record IsBusy (bits : List Bool) : Type 0 where
  pub place : ℕ
  pub within : place ≤ length bits
  pub flag : EndsFlag (take place bits)
  pub last : (later : ℕ) → place < later → later ≤ length bits → ¬ EndsFlag (take later bits)
  pub no_abort : (later : ℕ) → place < later → later ≤ length bits → ¬ EndsAbort (take later bits)
  pub fewer : length bits < place + most_quiet
