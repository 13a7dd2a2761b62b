-- Whose turn it is.
use Rattle.std.proofs.Common.{◌≡◌, ℕ, ◌<◌, true, false, not, List, length, get_or, sym, refl, ap, ◌∙◌, arith, inl, inr}
use Rattle.std.proofs.Common.{subst, [], Bool, Result, Ok}
use Rattle.std.proofs.lemmas.Bool.{cases_lt, false≢true}
use Rattle.ax25_address.specs.Callsign.{Callsign}
use Rattle.ax25_address.specs.SameCall.{is_same_call, is_same_call-Decides}
use Rattle.ax25_address.specs.FramePath.{BeginsWithPath}
use Rattle.ax25_address.specs.declared.path.Hop.{Hop}
use Rattle.ax25_address.specs.declared.path.Path.{Path}
use Rattle.ax25_address.specs.declared.fault.AddrFault.{AddrFault}
use Rattle.digipeater.specs.Repeated.{IsNextRepeater, IsTurnOf}

no_hop : Hop
no_hop = record { call = record { name = []; ssid = 0 }; done = false }

not_before : (hops : List Hop) (k j : ℕ) → IsNextRepeater hops k → IsNextRepeater hops j → k < j → ⊥
not_before hops k j h g earlier = false≢true (sym (h.waits no_hop) ∙ g.before k no_hop earlier)

-- one repeater is the next
pub IsNextRepeater-same : (hops : List Hop) (k j : ℕ) → IsNextRepeater hops k → IsNextRepeater hops j → k ≡ j
IsNextRepeater-same hops k j h g = elim (cases_lt k j) [
  | inl earlier ↦ absurd (not_before hops k j h g earlier)
  | inr from ↦ elim (cases_lt j k) [ inl earlier ↦ absurd (not_before hops j k g h earlier) | inr equal ↦ omega arith ]
]

-- and none if all are done
pub none_is_next : (hops : List Hop) (k : ℕ) → ((j : ℕ) (d : Hop) → j < length hops → (get_or hops j d).done ≡ true)
    → IsNextRepeater hops k → ⊥
none_is_next hops k all h = false≢true (sym (h.waits no_hop) ∙ all k no_hop h.within)

-- a path that the octets begin with is the one that was read
pub same_read : (p q : Path) (m n : ℕ) → ◌≡◌ {A = Result (Path × ℕ) AddrFault} (Ok (p, m)) (Ok (q, n)) → p ≡ q
same_read p q m n e = let pair : ◌≡◌ {A = Path × ℕ} (p, m) (q, n) = cc in ap (λ (r : Path × ℕ). r.0) pair

-- so it is the turn of the next repeater of that path
pub turn_of_read : (call : Callsign) (octets : List ℕ) (path : Path) (len k : ℕ) (hops : List Hop)
    → hops ≡ path.repeaters.items → ((q : Path) (n : ℕ) → BeginsWithPath octets q n
    → ◌≡◌ {A = Result (Path × ℕ) AddrFault} (Ok (path, len)) (Ok (q, n))) → IsTurnOf call octets k
    → IsNextRepeater hops k × ((d : Hop) → (get_or hops k d).call ≡ call)
turn_of_read call octets path len k hops items each turn =
    let e : turn.path.repeaters.items ≡ hops = ap (λ (p : Path). p.repeaters.items)
    (sym (same_read path turn.path len turn.len (each turn.path turn.len turn.begins))) ∙ sym items in (
      subst (λ (xs : List Hop). IsNextRepeater xs k) e turn.next,
      λ d. ap (λ (xs : List Hop). (get_or xs k d).call) (sym e) ∙ turn.called d,
    )

-- a call that `!=` tells apart is another
pub other_call : (a b : Callsign) → not (is_same_call a b) ≡ true → a ≡ b → ⊥
other_call a b h e = false≢true (ap not (sym ((is_same_call-Decides a b).1 e)) ∙ h)

-- and one that it does not is the same
pub same_call : (a b : Callsign) → not (is_same_call a b) ≡ false → a ≡ b
same_call a b h = (is_same_call-Decides a b).0 (from_not (is_same_call a b) h)
  where
    from_not : (x : Bool) → not x ≡ false → x ≡ true
    from_not true e = refl
    from_not false e = absurd (false≢true (sym e))

-- the next repeater of the path that was read is the call
pub IsTurnOf-read : (call : Callsign) (octets : List ℕ) (path : Path) (len k : ℕ) (hops : List Hop) (hop : Hop)
    → hops ≡ path.repeaters.items → BeginsWithPath octets path len → IsNextRepeater hops k
    → ((d : Hop) → get_or hops k d ≡ hop) → hop.call ≡ call → IsTurnOf call octets k
IsTurnOf-read call octets path len k hops hop items begins next here called = record {
  path = path;
  len = len;
  begins = begins;
  next = subst (λ (xs : List Hop). IsNextRepeater xs k) items next;
  called = λ d. ap (λ (xs : List Hop). (get_or xs k d).call) (sym items) ∙ ap (λ (h : Hop). h.call) (here d) ∙ called;
}
