-- The station is told of the connections that were shut, one after another.
use Rattle.host_ports.proofs.Common.{suc, ◌==◌, true, List, ◌∷◌, Some, list_any, slice_get, ◌∙◌, ap, or_left, or_right}
use Rattle.host_ports.proofs.Common.{Left, IsHostTurn, HostParts, ReportLine, AreParts, Moves, MovesBy, IsKnown}
use Rattle.host_ports.proofs.Common.{is_known, Hosts, without, is_client_of, is_among, IsDelivered, HaveLeft}
use Rattle.std.specs.Prelude.{◌≡◌, ℕ, [], drop}
use Rattle.host_ports.proofs.NamedLemmas.{itself}

-- whatever hosts the first parts stand for, the station was told of some that left
abbrev pub SomeLeft : HostParts → HostParts → Type 0
SomeLeft a b =
    (printed : List ReportLine) (hosts : Hosts) → AreParts a printed hosts
    → (count : ℕ) × (next : Hosts) × HaveLeft count hosts next × AreParts b printed next

pub one_left : (id : ℕ) (others : List ℕ) (a b c d : HostParts) → SomeLeft a b → b.leaving.items ≡ id ∷ others
    → Moves (without id) b c → MovesBy (IsDelivered (IsHostTurn (Left id))) c d → SomeLeft a d
one_left id others a b c d some first forgets tells = λ printed hosts h.
    let s = some printed hosts h in
    let t = tells printed (without id s.1) (forgets printed s.1 s.3) in
    (suc s.0, t.0, (s.1, s.2, record { id = id; others = others; first = s.3.leaving ∙ first; told = t.1 }), t.2)

pub first_of : (ids : List ℕ) (id : ℕ) → slice_get ids 0 ≡ Some id → ids ≡ id ∷ drop 1 ids
first_of [] id is = absurd (cc)
first_of (one ∷ ids) id is = let same : one ≡ id = cc in ap (λ n. n ∷ ids) same

pub first_among : (ids others : List ℕ) (id : ℕ) → ids ≡ id ∷ others → is_among id ids ≡ true
first_among ids others id is = ap (is_among id) is ∙ or_left (id == id) (is_among id others) (itself id)

-- who leaves is known
pub leaving_known : (id : ℕ) (a : HostParts) → IsKnown a → is_among id a.leaving.items ≡ true → is_known id a ≡ true
leaving_known id a known leaves = known.known id (or_right (list_any (is_client_of id) a.clients.items)
    (is_among id a.leaving.items) leaves)
