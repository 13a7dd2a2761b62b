-- What a list of parameters tells, and the parameters of a station as such a list (AX.25 2.2, figure 4.5).
use Rattle.std.specs.Prelude.{ℕ, ◌*◌, ◌/◌, ◌%◌, ◌==◌, if◌then◌else◌, List, [], ◌∷◌, Option, Some, None}
use Rattle.ax25_frames.specs.declared.frame.Modulus.{Modulus}
use Rattle.ax25_frames.specs.declared.frame.Modulus.TheVariants.{Eight, OneTwentyEight}
use Rattle.selective_reject.specs.declared.window.Mode.{Mode}
use Rattle.selective_reject.specs.declared.window.Mode.TheVariants.{Rej, Srej}
use Rattle.xid_parameters.specs.declared.parameters.Duplex.{Duplex}
use Rattle.xid_parameters.specs.declared.parameters.Duplex.TheVariants.{Half, Full}
use Rattle.xid_parameters.specs.declared.parameters.LinkParameters.{LinkParameters}
use Rattle.xid_parameters.specs.declared.parameters.ToldParameters.{ToldParameters}
use Rattle.xid_parameters.specs.XidField.{Parameter}
use Rattle.xid_parameters.specs.Values.{duplex_in, mode_in, modulus_in, info_octets_in, window_in, number_in, octet_in}

-- the value of an identifier; if it is told more than once, the last one counts
abbrev pub later : Option (List ℕ) → Option (List ℕ) → Option (List ℕ)
later (Some value) earlier = Some value
later None earlier = earlier

abbrev pub value_told : ℕ → List Parameter → Option (List ℕ)
value_told identifier [] = None
value_told identifier (p ∷ ps) =
    later (value_told identifier ps) (if p.identifier == identifier then Some p.value else None)

-- what a value tells, if there is one
abbrev pub told_in : {X : Type 0} → (List ℕ → Option X) → Option (List ℕ) → Option X
told_in read None = None
told_in read (Some value) = read value

abbrev pub told_by : List Parameter → ToldParameters
told_by ps = record {
  duplex = told_in duplex_in (value_told 2 ps);
  mode = told_in mode_in (value_told 3 ps);
  modulus = told_in modulus_in (value_told 3 ps);
  info_octets = told_in info_octets_in (value_told 6 ps);
  window = told_in window_in (value_told 8 ps);
  t1 = told_in number_in (value_told 9 ps);
  retries = told_in octet_in (value_told 10 ps);
}

-- two octets of a number, the high one first
abbrev pub two_octets : ℕ → List ℕ
two_octets number = number / 256 ∷ number % 256 ∷ []

-- balanced mode, and the duplex
abbrev pub duplex_octet : Duplex → ℕ
duplex_octet Half = 33
duplex_octet Full = 65

-- extended addresses, and REJ, or REJ and SREJ
abbrev pub mode_octet : Mode → ℕ
mode_octet Rej = 130
mode_octet Srej = 134

-- a check sequence of 16 bits, and the modulus
abbrev pub modulus_octet : Modulus → ℕ
modulus_octet Eight = 132
modulus_octet OneTwentyEight = 136

-- what a station tells of itself; the last octet of the functions says that its transmissions are synchronous
abbrev pub parameters_of : LinkParameters → List Parameter
parameters_of own =
    record { identifier = 2; value = duplex_octet own.duplex ∷ 0 ∷ [] }
    ∷ record { identifier = 3; value = mode_octet own.mode ∷ modulus_octet own.modulus ∷ 2 ∷ [] }
    ∷ record { identifier = 6; value = two_octets (8 * own.info_octets) }
    ∷ record { identifier = 8; value = own.window ∷ [] }
    ∷ record { identifier = 9; value = two_octets own.t1 }
    ∷ record { identifier = 10; value = own.retries ∷ [] }
    ∷ []

-- all parameters of a station, told
abbrev pub all_told : LinkParameters → ToldParameters
all_told own = record {
  duplex = Some own.duplex;
  mode = Some own.mode;
  modulus = Some own.modulus;
  info_octets = Some own.info_octets;
  window = Some own.window;
  t1 = Some own.t1;
  retries = Some own.retries;
}
