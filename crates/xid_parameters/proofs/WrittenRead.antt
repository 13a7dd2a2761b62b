-- What a station writes of itself is read as it was told.
use Rattle.std.proofs.Common.{◌≡◌, ℕ, ◌+◌, ◌*◌, ◌/◌, ◌%◌, ◌≤◌, [], ◌∷◌, Some, refl, ap, ◌∙◌, arith}
use Rattle.std.proofs.Common.{if◌then◌else◌, None, Bool, ◌&&◌, nat_le}
use Rattle.std.proofs.Math.Nat.{div-add-mod, mul-div_cancel_left}
use Rattle.std.proofs.lemmas.Bool.{le-leb}
use Rattle.ax25_frames.specs.declared.frame.Modulus.{Modulus}
use Rattle.ax25_frames.specs.declared.frame.Modulus.TheVariants.{Eight, OneTwentyEight}
use Rattle.selective_reject.specs.declared.window.Mode.{Mode}
use Rattle.selective_reject.specs.declared.window.Mode.TheVariants.{Rej, Srej}
use Rattle.xid_parameters.specs.declared.parameters.Duplex.{Duplex}
use Rattle.xid_parameters.specs.declared.parameters.Duplex.TheVariants.{Half, Full}
use Rattle.xid_parameters.specs.declared.parameters.LinkParameters.{LinkParameters}
use Rattle.xid_parameters.specs.Values.{number_of, duplex_in, mode_in, modulus_in, window_in}
use Rattle.xid_parameters.specs.Told.{two_octets, duplex_octet, mode_octet, modulus_octet, told_by, parameters_of}
use Rattle.xid_parameters.specs.Told.{all_told}
use Rattle.xid_parameters.specs.Written.{CanBeTold}

duplex_read : (duplex : Duplex) → duplex_in (duplex_octet duplex ∷ 0 ∷ []) ≡ Some duplex
duplex_read Half = refl
duplex_read Full = refl

mode_read : (mode : Mode) (modulus : Modulus) → mode_in (mode_octet mode ∷ modulus_octet modulus ∷ 2 ∷ []) ≡ Some mode
mode_read Rej Eight = refl
mode_read Rej OneTwentyEight = refl
mode_read Srej Eight = refl
mode_read Srej OneTwentyEight = refl

modulus_read : (mode : Mode) (modulus : Modulus)
    → modulus_in (mode_octet mode ∷ modulus_octet modulus ∷ 2 ∷ []) ≡ Some modulus
modulus_read Rej Eight = refl
modulus_read Rej OneTwentyEight = refl
modulus_read Srej Eight = refl
modulus_read Srej OneTwentyEight = refl

two_read : (number : ℕ) → number_of (two_octets number) ≡ number
two_read number = let whole : 256 * (number / 256) + number % 256 ≡ number = div-add-mod number 256 in omega (arith, whole)

window_read : (window : ℕ) → 1 ≤ window → window ≤ 127 → window_in (window ∷ []) ≡ Some window
window_read window some most =
    ap (λ (b : Bool). if b && nat_le window 127 then Some window else None) (le-leb 1 window some)
    ∙ ap (λ (b : Bool). if b then Some window else None) (le-leb window 127 most)

eighth_read : (octets : ℕ) → number_of (two_octets (8 * octets)) / 8 ≡ octets
eighth_read octets = ap (λ (n : ℕ). n / 8) (two_read (8 * octets)) ∙ mul-div_cancel_left octets {n = 8} (omega arith)

pub written_read : (own : LinkParameters) → CanBeTold own → told_by (parameters_of own) ≡ all_told own
written_read own can = λ i. record {
  duplex = duplex_read own.duplex i;
  mode = mode_read own.mode own.modulus i;
  modulus = modulus_read own.mode own.modulus i;
  info_octets = Some (eighth_read own.info_octets i);
  window = window_read own.window can.some_window can.window i;
  t1 = Some (two_read own.t1 i);
  retries = Some own.retries;
}
