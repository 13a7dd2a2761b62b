-- What is said of a command can be said of an equal one.
use Rattle.tnc_main.proofs.Common.{◌≡◌, ℕ, List, Option, None, Result, sym, subst, ap, OnOk, Fault, Command, Stop}
use Rattle.tnc_main.proofs.Common.{Reads, fault_of, WritesAtEnd, end_of, status_of}
use Rattle.tnc_main.proofs.Ends.{if_ok}
use Rattle.tnc_main.proofs.Writing.{Written}

-- a command is another one
module _ (command other : Command) (is : command ≡ other) where
  pub reads : (left : Option (List ℕ)) (octets : List ℕ) → Reads command left octets → Reads other left octets
  reads left octets = subst (λ c. Reads c left octets) is

  pub reads_back : (left : Option (List ℕ)) (octets : List ℕ) → Reads other left octets → Reads command left octets
  reads_back left octets = subst (λ c. Reads c left octets) (sym is)

  pub same_fault : (octets : List ℕ) → fault_of command octets ≡ fault_of other octets
  same_fault octets = ap (λ c. fault_of c octets) is

  pub no_fault : (octets : List ℕ) (r : Result (Unit {0}) Stop) (end : Result (Unit {0}) Fault) → r ≡ end_of end
      → OnOk end (fault_of other octets ≡ None) → OnOk r (fault_of command octets ≡ None)
  no_fault octets r end same =
      subst (λ c. OnOk end (fault_of other octets ≡ None) → OnOk r (fault_of c octets ≡ None)) (sym is)
      (if_ok r end same {P = fault_of other octets ≡ None} {Q = fault_of other octets ≡ None} (λ none. none))

  pub last : WritesAtEnd command → WritesAtEnd other
  last = subst (λ c. WritesAtEnd c) is

  -- what the other one wrote is what this one wrote, at the status of its end
  pub written : (octets before : List ℕ) (left now : Option (List ℕ)) (r end : Result (Unit {0}) Stop) → r ≡ end
      → Written other octets before left now (status_of end) → Written command octets before left now (status_of r)
  written octets before left now r end same h =
      subst (λ c. Written c octets before left now (status_of r)) (sym is)
      (subst (λ e. Written other octets before left now (status_of e)) (sym same) h)
