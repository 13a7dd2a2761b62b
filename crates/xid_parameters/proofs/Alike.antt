-- Two stations that tell each other all come to one agreement.
use Rattle.std.proofs.Common.{◌≡◌, min, refl}
use Rattle.std.proofs.Math.Nat.{min_comm, max_comm}
use Rattle.ax25_frames.specs.declared.frame.Modulus.{Modulus}
use Rattle.ax25_frames.specs.declared.frame.Modulus.TheVariants.{Eight, OneTwentyEight}
use Rattle.selective_reject.specs.declared.window.Mode.{Mode}
use Rattle.selective_reject.specs.declared.window.Mode.TheVariants.{Rej, Srej}
use Rattle.xid_parameters.specs.declared.parameters.Duplex.{Duplex}
use Rattle.xid_parameters.specs.declared.parameters.Duplex.TheVariants.{Half, Full}
use Rattle.xid_parameters.specs.declared.parameters.LinkParameters.{LinkParameters}
use Rattle.xid_parameters.specs.Told.{all_told}
use Rattle.xid_parameters.specs.Agreement.{agreed_on, both_duplex, both_mode, both_modulus}

duplex_alike : (a b : Duplex) → both_duplex a b ≡ both_duplex b a
duplex_alike Half Half = refl
duplex_alike Half Full = refl
duplex_alike Full Half = refl
duplex_alike Full Full = refl

mode_alike : (a b : Mode) → both_mode a b ≡ both_mode b a
mode_alike Rej Rej = refl
mode_alike Rej Srej = refl
mode_alike Srej Rej = refl
mode_alike Srej Srej = refl

modulus_alike : (a b : Modulus) → both_modulus a b ≡ both_modulus b a
modulus_alike Eight Eight = refl
modulus_alike Eight OneTwentyEight = refl
modulus_alike OneTwentyEight Eight = refl
modulus_alike OneTwentyEight OneTwentyEight = refl

pub alike : (a b : LinkParameters) → agreed_on a (all_told b) ≡ agreed_on b (all_told a)
alike a b = λ i. record {
  duplex = duplex_alike a.duplex b.duplex i;
  mode = mode_alike a.mode b.mode i;
  modulus = modulus_alike a.modulus b.modulus i;
  info_octets = min_comm a.info_octets b.info_octets i;
  window = min_comm a.window b.window i;
  t1 = min 65535 (max_comm a.t1 b.t1 i);
  retries = max_comm a.retries b.retries i;
}
