-- What two stations agree on (AX.25 2.2 section 6.3.2): what both can do, the smaller sizes, and the longer patience. What
-- is not told stays as this station has it.
use Rattle.std.specs.Prelude.{◌≡◌, ℕ, min, max, Option, Some, None}
use Rattle.ax25_frames.specs.declared.frame.Modulus.{Modulus}
use Rattle.ax25_frames.specs.declared.frame.Modulus.TheVariants.{Eight, OneTwentyEight}
use Rattle.selective_reject.specs.declared.window.Mode.{Mode}
use Rattle.selective_reject.specs.declared.window.Mode.TheVariants.{Rej, Srej}
use Rattle.xid_parameters.specs.declared.parameters.Duplex.{Duplex}
use Rattle.xid_parameters.specs.declared.parameters.Duplex.TheVariants.{Half, Full}
use Rattle.xid_parameters.specs.declared.parameters.LinkParameters.{LinkParameters}
use Rattle.xid_parameters.specs.declared.parameters.ToldParameters.{ToldParameters}
use Rattle.xid_parameters.specs.Told.{all_told}

abbrev pub both_duplex : Duplex → Duplex → Duplex
both_duplex Half other = Half
both_duplex Full other = other

abbrev pub both_mode : Mode → Mode → Mode
both_mode Rej other = Rej
both_mode Srej other = other

abbrev pub both_modulus : Modulus → Modulus → Modulus
both_modulus Eight other = Eight
both_modulus OneTwentyEight other = other

-- this station's, and the other's if it tells it, taken together
abbrev pub together : {X : Type 0} → (X → X → X) → X → Option X → X
together both own None = own
together both own (Some other) = both own other

-- the longer of two times, as far as a timer can have it
abbrev pub longer : ℕ → ℕ → ℕ
longer own other = min 65535 (max own other)

abbrev pub agreed_on : LinkParameters → ToldParameters → LinkParameters
agreed_on own told = record {
  duplex = together both_duplex own.duplex told.duplex;
  mode = together both_mode own.mode told.mode;
  modulus = together both_modulus own.modulus told.modulus;
  info_octets = together min own.info_octets told.info_octets;
  window = together min own.window told.window;
  t1 = together longer own.t1 told.t1;
  retries = together max own.retries told.retries;
}

-- Two stations that tell each other all come to one agreement.
abbrev pub AgreementsAreAlike : Type 0
AgreementsAreAlike =
    (a b : LinkParameters) → agreed_on a (all_told b) ≡ agreed_on b (all_told a)
