-- How the making of a text ends: what each answer says, as it is asked for.
use Rattle.tnc_engine.proofs.Common.{◌≡◌, ℕ, ◌+◌, List, [], drop, Option, Some, None, Result, Ok, Err, refl, subst, OnOk}
use Rattle.tnc_engine.proofs.Common.{arith, Fault, Input, Memory, InputFault, TooLong, input_limit, Making, IsMaking}
use Rattle.tnc_engine.proofs.Common.{IsEnded, fault_in}
use Rattle.tnc_engine.proofs.MakingLemmas.{wrote_none}

module _ (making : Making) (most : ℕ) (octets : List ℕ) (left was now : Option (List ℕ)) where
  abbrev Ended : Result (Unit {0}) Fault → Type 0
  Ended r = IsEnded making most octets left was now r

  pub to_end : (r : Result (Unit {0}) Fault) → Ended r → OnOk r (left ≡ Some [])
  to_end (Ok x) h = h.end
  to_end (Err e) h = tt

  pub to_good : (r : Result (Unit {0}) Fault) → Ended r → OnOk r (fault_in making octets ≡ None)
  to_good (Ok x) h = h.good
  to_good (Err e) h = tt

  pub to_bad : (r : Result (Unit {0}) Fault) → Ended r → (fault : InputFault) → r ≡ Err (Input fault)
      → fault_in making octets ≡ Some fault
  to_bad r h fault is = let f = subst Ended is h in f.bad

  pub to_stops : (r : Result (Unit {0}) Fault) → Ended r → r ≡ Err (Input TooLong)
      → left ≡ Some (drop (input_limit + 1) octets)
  to_stops r h is = let f = subst Ended is h in f.stops refl

-- memory ran out before an octet was read
pub ended_first : (making : Making) → IsMaking making → (most : ℕ) (octets : List ℕ) (left out : Option (List ℕ))
    → left ≡ Some octets → IsEnded making most octets left out out (Err Memory)
ended_first making laws most octets left out is = record {
  read = [];
  front = [];
  rest = [];
  taken = record { rest = octets; parts = refl; left_over = is };
  parts = refl;
  few = omega arith;
  good = laws.good;
  wrote = wrote_none (making.Settles []) out laws.none;
}
