-- What connections are sent is what they take of their offers: no other step sends anything.
use Rattle.host_ports.proofs.Common.{◌==◌, if◌then◌else◌, List, ◌∷◌, Option, Some, None, sym, ◌∙◌, ap, subst, inl, inr}
use Rattle.host_ports.proofs.Common.{append_assoc, flat_map-append, append-nil, HostEvent, Piece, Client, taken_of, Hosts}
use Rattle.host_ports.proofs.Common.{cutting, client_of, AllHaveLeft, Asked, Offer, Offering, InOrder, AreTried, IsTaken}
use Rattle.host_ports.proofs.Common.{IsOffered, IsOfferedTo, IsHostPart, ids_of_clients, octets_for, front_of}
use Rattle.std.specs.Prelude.{◌≡◌, ℕ, [], ◌++◌, take, refl}
use Rattle.host_ports.specs.HostTurns.{Takes}
use Rattle.host_ports.proofs.KeptLemmas.{IsKeptByStep, IsKeptByTaking, kept_left, kept_tried, kept_takes}

sent_by_step : (sent : List Piece) → IsKeptByStep (λ hosts. hosts.sent ≡ sent)
sent_by_step sent = record {
  stepped = λ hosts station same. same;
  left = λ id hosts same. same;
  shut = λ id hosts there same. same;
  leaving = λ ids hosts same. same;
  piece = λ piece client hosts found fit same. same;
}

sent_by_taking : (sent : List Piece) (events : List HostEvent) → IsKeptByTaking events (λ hosts. hosts.sent ≡ sent)
sent_by_taking sent events = record {
  steps = sent_by_step sent;
  untaken = λ untaken hosts same. same;
  joined = λ id hosts joins new same. same;
}

left_same : (before after : Hosts) → AllHaveLeft before after → after.sent ≡ before.sent
left_same before after left = kept_left (λ hosts. hosts.sent ≡ before.sent) (sent_by_step before.sent)
    before after left refl

-- ---- offers

-- a connection was sent what it took so far
abbrev HasGiven : ℕ → List Piece → Offering → Type 0
HasGiven id sent s = octets_for id s.hosts.sent ≡ octets_for id sent ++ taken_of id s.offers

taken_more : (id : ℕ) (offers : List Offer) (offer : Offer)
    → taken_of id (offers ++ offer ∷ []) ≡ taken_of id offers ++ (if offer.id == id then take offer.took offer.octets
    else [])
taken_more id offers offer =
    flat_map-append (λ (one : Offer). if one.id == id then take one.took one.octets else []) offers (offer ∷ [])
    ∙ ap (λ more. taken_of id offers ++ more) (append-nil (if offer.id == id then take offer.took offer.octets else []))

octets_more : (id : ℕ) (pieces : List Piece) (piece : Piece)
    → octets_for id (pieces ++ piece ∷ []) ≡ octets_for id pieces ++ (if piece.id == id then piece.octets else [])
octets_more id pieces piece =
    flat_map-append (λ (one : Piece). if one.id == id then one.octets else []) pieces (piece ∷ [])
    ∙ ap (λ more. octets_for id pieces ++ more) (append-nil (if piece.id == id then piece.octets else []))

takes_given : (id : ℕ) (sent : List Piece) (client : Client) (before after : Offering) → Takes client before after
    → HasGiven id sent before → HasGiven id sent after
takes_given id sent client before after t given =
    let taken : List ℕ = take t.took (front_of client.waiting) in
    let part : List ℕ = if client.id == id then taken else [] in
    ap (λ (h : Hosts). octets_for id h.sent) t.rest ∙ octets_more id before.hosts.sent
    (record { id = client.id; octets = taken })
    ∙ ap (λ octets. octets ++ part) given ∙ append_assoc (octets_for id sent) (taken_of id before.offers) part
    ∙ ap (λ more. octets_for id sent ++ more) (sym (ap (taken_of id) t.offered
    ∙ taken_more id before.offers (record { id = client.id; octets = front_of client.waiting; took = t.took })))

offered_given : (id : ℕ) (sent : List Piece) (client : Option Client) (before after : Offering)
    → IsOfferedTo client before after → HasGiven id sent before → HasGiven id sent after
offered_given id sent None before after offered given = subst (HasGiven id sent) (sym offered) given
offered_given id sent (Some client) before after offered given = elim offered [
  | inl nothing ↦ subst (HasGiven id sent) (sym nothing.1) given
  | inr rest ↦ elim rest [
    | inl takes ↦ takes_given id sent client before after takes.1 given
    | inr fails ↦
        ap (octets_for id) (left_same (cutting client.id before.hosts) after.hosts fails.1.leave) ∙ given
        ∙ ap (λ offers. octets_for id sent ++ taken_of id offers) (sym fails.1.offered)
  ]
]

all_given : (id : ℕ) (sent : List Piece) (ids : List ℕ) (before after : Offering) → InOrder IsOffered ids before after
    → HasGiven id sent before → HasGiven id sent after
all_given id sent [] before after run given = subst (HasGiven id sent) (sym run) given
all_given id sent (one ∷ ids) before after run given =
    all_given id sent ids run.0 after run.2 (offered_given id sent (client_of one before.hosts.clients)
    before run.0 run.1 given)

-- each connection was sent what it took of the offers so far
pub offers_given : (id : ℕ) (events : List HostEvent) (ids : List ℕ) (before tried taken : Hosts) (offered : Offering)
    → AreTried before tried → InOrder IsTaken events tried taken
    → InOrder IsOffered ids (record { hosts = taken; offers = []; failed = [] }) offered
    → octets_for id offered.hosts.sent ≡ octets_for id before.sent ++ taken_of id offered.offers
offers_given id events ids before tried taken offered tries takes offers =
    let k = sent_by_taking before.sent events in
    let same : taken.sent ≡ before.sent =
    kept_takes events (λ hosts. hosts.sent ≡ before.sent) k tried taken takes
    (kept_tried events (λ hosts. hosts.sent ≡ before.sent) k before tried tries refl) in
    all_given id taken.sent ids (record { hosts = taken; offers = []; failed = [] }) offered offers
    (sym (append-nil (octets_for id taken.sent)))
    ∙ ap (λ sent. octets_for id sent ++ taken_of id offered.offers) same

-- in the part of a turn each connection is sent what it took of its offers
pub part_given : (asked : Asked) (before after : Hosts) → IsHostPart asked before after → (id : ℕ)
    → octets_for id after.sent ≡ octets_for id before.sent ++ taken_of id asked.offers
part_given asked before after p id =
    ap (λ (h : Hosts). octets_for id h.sent) p.done
    ∙ offers_given id asked.events (ids_of_clients p.taken.clients)
    before p.tried p.taken p.offered p.tries p.takes p.offers
    ∙ ap (λ offers. octets_for id before.sent ++ taken_of id offers) p.told.0
