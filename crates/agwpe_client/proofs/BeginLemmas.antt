-- A call to which no octet of the host has come.
use Rattle.agwpe_client.proofs.Common.{◌≡◌, ℕ, List, [], refl, ap, subst, sym, arith, Option, Some, call_field, Held}
use Rattle.agwpe_client.proofs.Common.{spelling, Asking, connect_message, CallPlan, begin, call_run, HeldCall, IsAt}
use Rattle.agwpe_client.proofs.Common.{StandsFor, opening_octets}
use Rattle.std.proofs.Common.{lit<}
use Rattle.agwpe_port.specs.Held.{StandsFor as StandsForOctets}
use Rattle.agwpe_port.proofs.ReadingLemmas.{reading_short}
use Rattle.agwpe_client.specs.HeldCall.{farewell_octets}
use Rattle.agwpe_client.proofs.StreamLemmas.{run_of}

pub run_begins : (plan : CallPlan) → call_run plan [] ≡ begin plan
unfolding call_run
run_begins plan = ap (run_of plan) (reading_short [] (lit< tt))

-- what is kept at the begin
abbrev pub begun : Held → List ℕ → List ℕ → Option (List ℕ) → Option (List ℕ) → Option (List ℕ) → ℕ → HeldCall
begun reader own remote connect opening farewell wanted = record {
  reader = reader;
  own = own;
  remote = remote;
  state = Asking;
  connect = connect;
  opening = opening;
  farewell = farewell;
  wanted = wanted;
}

pub stands_begun : (plan : CallPlan) (reader : Held) (own remote : List ℕ)
    (connect opening farewell : Option (List ℕ)) → StandsForOctets reader [] → own ≡ call_field plan.own
    → remote ≡ call_field plan.remote
    → connect ≡ Some (spelling (connect_message plan.own plan.remote plan.via))
    → opening ≡ Some (opening_octets plan.own plan.remote plan.text plan.expect)
    → farewell ≡ farewell_octets plan.own plan.remote plan.expect
    → StandsFor (begun reader own remote connect opening farewell plan.expect) plan []
stands_begun plan reader own remote connect opening farewell reads is_own is_remote is_connect is_opening is_farewell =
    record {
      at = subst (λ run. IsAt (begun reader own remote connect opening farewell plan.expect) plan run)
          (sym (run_begins plan)) start;
      reads = λ _. reads;
    }
  where
    start : IsAt (begun reader own remote connect opening farewell plan.expect) plan (begin plan)
    start = record {
      own = is_own;
      remote = is_remote;
      state = refl;
      connect = λ _. is_connect;
      opening = λ _. is_opening;
      printed = λ _. refl;
      not_leaving = λ _. refl;
      wanted = omega arith;
      farewell = is_farewell;
      leaving = λ e. absurd cc;
    }
