-- Each connection is sent a first part of what is appended for it: every step of hosts keeps that.
use Rattle.host_ports.proofs.Common.{zero, suc, ◌==◌, ◌||◌, false, not, if◌then◌else◌, List, ◌∷◌, filter, Option, Some}
use Rattle.host_ports.proofs.Common.{None, cond, sym, ◌∙◌, ap, subst, inl, inr, append_assoc, eqb-true, eq-eqb, ne_eqb}
use Rattle.host_ports.proofs.Common.{cases_Bool, cases_eq, cond-true, cond-false, or_parts, flat_map-append, append-nil}
use Rattle.host_ports.proofs.Common.{take-append-drop, list_any-append, Config, HostEvent, Piece, Turn, Client, Hosts}
use Rattle.host_ports.proofs.Common.{new_hosts, waiting_too, with_waiting, client_of, is_among, was_there, IsStep, Asked}
use Rattle.host_ports.proofs.Common.{IsHostPart, joining, octets_for, IsOrderly, octets_of, with_piece, front_of}
use Rattle.host_ports.proofs.Common.{after_sending, following}
use Rattle.std.specs.Prelude.{◌≡◌, ℕ, [], ◌++◌, take, drop, refl}
use Rattle.host_ports.specs.SentSoFar.{IsLeft, IsSentOf, AreSentInOrder}
use Rattle.host_ports.proofs.KeptLemmas.{IsKeptByStep, IsKeptByPart, sending, kept_step, kept_part}
use Rattle.host_ports.proofs.ClientLemmas.{found_id}

-- ---- the client of a connection

abbrev is_none_of : Option Client → Type 0
is_none_of None = Unit {0}
is_none_of (Some client) = ⊥

none_or_some : (client : Client) → None ≡ Some client → ⊥
none_or_some client same = let P : Option Client → Type 0 = λ o. is_none_of o in subst P same tt

some_same : (a b : Client) → Some a ≡ Some b → a ≡ b
some_same a b same = cc

pub no_client_without : (id : ℕ) (clients : List Client) → client_of id (filter (λ client. not (client.id == id)) clients) ≡ None
no_client_without id [] = refl
no_client_without id (client ∷ clients) = elim (cases_Bool (client.id == id)) [
  | inl is ↦ ap (λ b. client_of id (cond (not b) (client ∷ filter (λ one. not (one.id == id)) clients)
      (filter (λ one. not (one.id == id)) clients))) is ∙ no_client_without id clients
  | inr isnt ↦
      ap (λ b. client_of id (cond (not b) (client ∷ filter (λ one. not (one.id == id)) clients)
      (filter (λ one. not (one.id == id)) clients))) isnt
      ∙ cond-false (client.id == id) (Some client) (client_of id (filter (λ one. not (one.id == id)) clients)) isnt
      ∙ no_client_without id clients
]

pub other_client_without : (id other : ℕ) (clients : List Client) → (other ≡ id → ⊥)
    → client_of other (filter (λ client. not (client.id == id)) clients) ≡ client_of other clients
other_client_without id other [] differs = refl
other_client_without id other (client ∷ clients) differs = elim (cases_Bool (client.id == id)) [
  | inl is ↦
      ap (λ b. client_of other (cond (not b) (client ∷ filter (λ one. not (one.id == id)) clients)
      (filter (λ one. not (one.id == id)) clients))) is
      ∙ other_client_without id other clients differs
      ∙ sym (cond-false (client.id == other) (Some client) (client_of other clients)
      (ne_eqb client.id other (λ same. differs (sym same ∙ eqb-true client.id id is))))
  | inr isnt ↦
      ap (λ b. client_of other (cond (not b) (client ∷ filter (λ one. not (one.id == id)) clients)
      (filter (λ one. not (one.id == id)) clients))) isnt
      ∙ ap (λ rest. cond (client.id == other) (Some client) rest) (other_client_without id other clients differs)
]

pub waiting_client : (id : ℕ) (waiting : List (List ℕ)) (clients : List Client) (client : Client) → client_of id clients ≡ Some client
    → client_of id (with_waiting id waiting clients) ≡ Some (record client { waiting = waiting })
waiting_client id waiting [] client found = absurd (none_or_some client found)
waiting_client id waiting (one ∷ clients) client found = elim (cases_Bool (one.id == id)) [
  | inl is ↦
      let same : Some one ≡ Some client = sym (cond-true (one.id == id) (Some one) (client_of id clients) is) ∙ found in
      ap (client_of id) (cond-true (one.id == id) (record one { waiting = waiting } ∷ clients)
      (one ∷ with_waiting id waiting clients) is)
      ∙ cond-true (one.id == id) (Some (record one { waiting = waiting })) (client_of id clients) is
      ∙ ap (λ (l : Client). Some (record l { waiting = waiting })) (some_same one client same)
  | inr isnt ↦
      ap (client_of id) (cond-false (one.id == id) (record one { waiting = waiting } ∷ clients)
      (one ∷ with_waiting id waiting clients) isnt)
      ∙ cond-false (one.id == id) (Some one) (client_of id (with_waiting id waiting clients)) isnt
      ∙ waiting_client id waiting clients client (sym (cond-false (one.id == id) (Some one) (client_of id clients) isnt) ∙ found)
]

pub other_waiting_client : (id other : ℕ) (waiting : List (List ℕ)) (clients : List Client) → (other ≡ id → ⊥)
    → client_of other (with_waiting id waiting clients) ≡ client_of other clients
other_waiting_client id other waiting [] differs = refl
other_waiting_client id other waiting (one ∷ clients) differs = elim (cases_Bool (one.id == id)) [
  | inl is ↦
      let not_other : (one.id == other) ≡ false = ne_eqb one.id other
      (λ same. differs (sym same ∙ eqb-true one.id id is)) in
      ap (client_of other) (cond-true (one.id == id) (record one { waiting = waiting } ∷ clients)
      (one ∷ with_waiting id waiting clients) is)
      ∙ cond-false (one.id == other) (Some (record one { waiting = waiting })) (client_of other clients) not_other
      ∙ sym (cond-false (one.id == other) (Some one) (client_of other clients) not_other)
  | inr isnt ↦
      ap (client_of other) (cond-false (one.id == id) (record one { waiting = waiting } ∷ clients)
      (one ∷ with_waiting id waiting clients) isnt)
      ∙ ap (λ rest. cond (one.id == other) (Some one) rest) (other_waiting_client id other waiting clients differs)
]

client_appended : (id : ℕ) (clients : List Client) (new : Client) → client_of id clients ≡ None
    → client_of id (clients ++ new ∷ []) ≡ cond (new.id == id) (Some new) None
client_appended id [] new none = refl
client_appended id (client ∷ clients) new none = elim (cases_Bool (client.id == id)) [
  | inl is ↦ absurd (none_or_some client (sym none ∙ cond-true (client.id == id) (Some client) (client_of id clients) is))
  | inr isnt ↦
      cond-false (client.id == id) (Some client) (client_of id (clients ++ new ∷ [])) isnt
      ∙ client_appended id clients new (sym (cond-false (client.id == id) (Some client) (client_of id clients) isnt) ∙ none)
]

other_client_appended : (id : ℕ) (clients : List Client) (new : Client) → (new.id == id) ≡ false
    → client_of id (clients ++ new ∷ []) ≡ client_of id clients
other_client_appended id [] new other = cond-false (new.id == id) (Some new) None other
other_client_appended id (client ∷ clients) new other = ap (λ rest. cond (client.id == id) (Some client) rest)
    (other_client_appended id clients new other)

-- ---- octets

octets_for_more : (id : ℕ) (pieces : List Piece) (piece : Piece)
    → octets_for id (pieces ++ piece ∷ []) ≡ octets_for id pieces ++ (if piece.id == id then piece.octets else [])
octets_for_more id pieces piece =
    flat_map-append (λ (one : Piece). if one.id == id then one.octets else []) pieces (piece ∷ [])
    ∙ ap (λ more. octets_for id pieces ++ more) (append-nil (if piece.id == id then piece.octets else []))

octets_of-append : (pieces : List (List ℕ)) (piece : List ℕ)
    → octets_of (pieces ++ piece ∷ []) ≡ octets_of pieces ++ piece
octets_of-append [] piece = append-nil piece
octets_of-append (one ∷ pieces) piece = ap (λ more. one ++ more) (octets_of-append pieces piece)
    ∙ sym (append_assoc one (octets_of pieces) piece)

pub octets_of-with_piece : (piece : List ℕ) (pieces : List (List ℕ))
    → octets_of (with_piece piece pieces) ≡ octets_of pieces ++ piece
octets_of-with_piece [] pieces = sym (append-nil (octets_of pieces))
octets_of-with_piece (octet ∷ octets) pieces = octets_of-append pieces (octet ∷ octets)

octets_of-following : (left : List ℕ) (pieces : List (List ℕ)) → octets_of (following left pieces) ≡ left ++ octets_of pieces
octets_of-following [] pieces = refl
octets_of-following (octet ∷ octets) pieces = refl

take_none : (count : ℕ) → take {A = ℕ} count [] ≡ []
take_none zero = refl
take_none (suc count) = refl

pub octets_of-sent : (count : ℕ) (waiting : List (List ℕ))
    → octets_of waiting ≡ take count (front_of waiting) ++ octets_of (after_sending count waiting)
octets_of-sent count [] = sym (ap (λ xs. xs ++ []) (take_none count))
octets_of-sent count (piece ∷ pieces) =
    ap (λ p. p ++ octets_of pieces) (sym (take-append-drop count piece))
    ∙ append_assoc (take count piece) (drop count piece) (octets_of pieces)
    ∙ ap (λ more. take count piece ++ more) (sym (octets_of-following (drop count piece) pieces))

-- ---- each change of hosts

left_none : (rest : List ℕ) (client : Option Client) → client ≡ None → IsLeft rest client
left_none rest client none = subst (IsLeft rest) (sym none) tt

pub orderly_without : (id : ℕ) (came : List ℕ) (clients : List Client) (appended sent : List Piece)
    → AreSentInOrder came clients appended sent → AreSentInOrder came (filter (λ client. not (client.id == id)) clients)
    appended sent
orderly_without id came clients appended sent o = record {
  first = λ other.
      let f = o.first other in
      record {
        rest = f.rest;
        parts = f.parts;
        left = elim (cases_eq other id) [
          | inl same ↦ left_none f.rest (client_of other (filter (λ client. not (client.id == id)) clients))
              (ap (λ n. client_of n (filter (λ client. not (client.id == id)) clients)) same ∙ no_client_without id clients)
          | inr differs ↦ subst (IsLeft f.rest) (sym (other_client_without id other clients differs)) f.left
        ];
      };
  strangers = λ other new. (
    (o.strangers other new).0,
    elim (cases_eq other id) [
      | inl same ↦ ap (λ n. client_of n (filter (λ client. not (client.id == id)) clients)) same ∙ no_client_without id clients
      | inr differs ↦ other_client_without id other clients differs ∙ (o.strangers other new).1
    ],
  );
}

-- what waits for one connection changes, and so does what was appended for it and what it was sent
changed : (id : ℕ) (client : Client) (waiting : List (List ℕ)) (came : List ℕ) (clients : List Client)
    (appended sent next_appended next_sent : List Piece)
    → client_of id clients ≡ Some client
    → ((other : ℕ) → (other ≡ id → ⊥) → (octets_for other next_appended ≡ octets_for other appended)
    × (octets_for other next_sent ≡ octets_for other sent))
    → ((rest : List ℕ) → octets_for id appended ≡ octets_for id sent ++ rest → rest ≡ octets_of client.waiting
    → octets_for id next_appended ≡ octets_for id next_sent ++ octets_of waiting)
    → AreSentInOrder came clients appended sent → AreSentInOrder came (with_waiting id waiting clients)
    next_appended next_sent
changed id client waiting came clients appended sent next_appended next_sent found others here o = record {
  first = λ other. elim (cases_eq other id) [
    | inl same ↦
        let f = o.first id in
        let left : f.rest ≡ octets_of client.waiting = subst (IsLeft f.rest) found f.left in
        let now : IsSentOf (octets_for id next_appended) (octets_for id next_sent)
        (client_of id (with_waiting id waiting clients)) = record {
          rest = octets_of waiting;
          parts = here f.rest f.parts left;
          left = subst (IsLeft (octets_of waiting)) (sym (waiting_client id waiting clients client found)) refl;
        } in
        subst (λ n. IsSentOf (octets_for n next_appended) (octets_for n next_sent)
        (client_of n (with_waiting id waiting clients))) (sym same) now
    | inr differs ↦
        let f = o.first other in
        record {
          rest = f.rest;
          parts = (others other differs).0 ∙ f.parts ∙ ap (λ s. s ++ f.rest) (sym (others other differs).1);
          left = subst (IsLeft f.rest) (sym (other_waiting_client id other waiting clients differs)) f.left;
        }
  ];
  strangers = λ other new. elim (cases_eq other id) [
    | inl same ↦ absurd (none_or_some client (sym (o.strangers id (subst (λ n. is_among n came ≡ false) same new)).1
        ∙ found))
    | inr differs ↦ (
      (others other differs).0 ∙ (o.strangers other new).0,
      other_waiting_client id other waiting clients differs ∙ (o.strangers other new).1,
    )
  ];
}

not_for : (id other : ℕ) (piece : Piece) → piece.id ≡ id → (other ≡ id → ⊥) → (pieces : List Piece)
    → octets_for other (pieces ++ piece ∷ []) ≡ octets_for other pieces
not_for id other piece is differs pieces =
    octets_for_more other pieces piece
    ∙ ap (λ more. octets_for other pieces ++ more) (cond-false (piece.id == other) piece.octets []
    (ne_eqb piece.id other (λ same. differs (sym same ∙ is))))
    ∙ append-nil (octets_for other pieces)

for_itself : (id : ℕ) (piece : Piece) → piece.id ≡ id → (pieces : List Piece)
    → octets_for id (pieces ++ piece ∷ []) ≡ octets_for id pieces ++ piece.octets
for_itself id piece is pieces =
    octets_for_more id pieces piece ∙ ap (λ more. octets_for id pieces ++ more)
    (cond-true (piece.id == id) piece.octets [] (eq-eqb piece.id id is))

-- a piece is appended
orderly_piece : (piece : Piece) (client : Client) (hosts : Hosts) → client_of piece.id hosts.clients ≡ Some client
    → IsOrderly hosts → IsOrderly (waiting_too piece client hosts)
orderly_piece piece client hosts found o =
    let id : ℕ = piece.id in
    let same : client.id ≡ id = found_id id hosts.clients client found in
    let waiting : List (List ℕ) = with_piece piece.octets client.waiting in
    subst (λ n. AreSentInOrder hosts.came (with_waiting n waiting hosts.clients) (hosts.appended ++ piece ∷ [])
    hosts.sent) (sym same)
    (changed id client waiting hosts.came hosts.clients hosts.appended hosts.sent (hosts.appended ++ piece ∷ [])
    hosts.sent found
    (λ other differs. (not_for id other piece refl differs hosts.appended, refl))
    (λ rest parts left.
    for_itself id piece refl hosts.appended ∙ ap (λ a. a ++ piece.octets) (parts
    ∙ ap (λ r. octets_for id hosts.sent ++ r) left)
    ∙ append_assoc (octets_for id hosts.sent) (octets_of client.waiting) piece.octets
    ∙ ap (λ more. octets_for id hosts.sent ++ more) (sym (octets_of-with_piece piece.octets client.waiting)))
    o)

abbrev is_empty : List ℕ → Type 0
is_empty [] = Unit {0}
is_empty (x ∷ xs) = ⊥

cons_or_nil : (x : ℕ) (xs : List ℕ) → [] ≡ x ∷ xs → ⊥
cons_or_nil x xs same = let P : List ℕ → Type 0 = λ l. is_empty l in subst P same tt

nothing_left : (sent rest : List ℕ) → [] ≡ sent ++ rest → rest ≡ []
nothing_left [] rest none = sym none
nothing_left (octet ∷ sent) rest none = absurd (cons_or_nil octet (sent ++ rest) none)

orderly_joining : (id : ℕ) (hosts : Hosts) → was_there id hosts ≡ false → IsOrderly hosts → IsOrderly (joining id hosts)
orderly_joining id hosts new o =
    let client : Client = record { id = id; waiting = [] } in
    let stranger = o.strangers id new in
    record {
      first = λ other. let f = o.first other in elim (cases_eq other id) [
        | inl same ↦
            let g = o.first id in
            let none : g.rest ≡ [] = nothing_left (octets_for id hosts.sent) g.rest (sym stranger.0 ∙ g.parts) in
            let at : client_of id (hosts.clients ++ client ∷ []) ≡ Some client = client_appended id hosts.clients client stranger.1
            ∙ cond-true (id == id) (Some client) None (eq-eqb id id refl) in
            let now : IsSentOf (octets_for id hosts.appended) (octets_for id hosts.sent)
            (client_of id (hosts.clients ++ client ∷ [])) = record {
              rest = g.rest;
              parts = g.parts;
              left = subst (IsLeft g.rest) (sym at) none;
            } in
            subst (λ n. IsSentOf (octets_for n hosts.appended) (octets_for n hosts.sent)
            (client_of n (hosts.clients ++ client ∷ []))) (sym same) now
        | inr differs ↦ record {
          rest = f.rest;
          parts = f.parts;
          left = subst (IsLeft f.rest) (sym (other_client_appended other hosts.clients client
              (ne_eqb id other (λ same. differs (sym same))))) f.left;
        }
      ];
      strangers = λ other not_there.
          let parts = or_parts (is_among other hosts.came) ((id == other) || false)
          (sym (list_any-append (λ one. one == other) hosts.came (id ∷ [])) ∙ not_there) in
          let before = o.strangers other parts.0 in
          (before.0, other_client_appended other hosts.clients client (or_parts (id == other) false parts.1).0 ∙ before.1);
    }

-- ---- what is sent

orderly_sent : (client : Client) (count : ℕ) (hosts : Hosts) → client_of client.id hosts.clients ≡ Some client → IsOrderly hosts
    → IsOrderly (sending client count hosts)
orderly_sent client count hosts found o =
    let id : ℕ = client.id in
    let taken : Piece = record { id = id; octets = take count (front_of client.waiting) } in
    let waiting : List (List ℕ) = after_sending count client.waiting in
    changed id client waiting hosts.came hosts.clients hosts.appended hosts.sent hosts.appended (hosts.sent ++ taken ∷ [])
    found
    (λ other differs. (refl, not_for id other taken refl differs hosts.sent))
    (λ rest parts left.
    parts ∙ ap (λ r. octets_for id hosts.sent ++ r) (left ∙ octets_of-sent count client.waiting)
    ∙ sym (append_assoc (octets_for id hosts.sent) taken.octets (octets_of waiting))
    ∙ ap (λ s. s ++ octets_of waiting) (sym (for_itself id taken refl hosts.sent)))
    o

-- ---- each step, and the part of a turn

pub orderly_by_step : IsKeptByStep IsOrderly
orderly_by_step = record {
  stepped = λ hosts station o. o;
  left = λ id hosts o. orderly_without id hosts.came hosts.clients hosts.appended hosts.sent o;
  shut = λ id hosts there o. orderly_without id hosts.came hosts.clients hosts.appended hosts.sent o;
  leaving = λ ids hosts o. o;
  piece = λ piece client hosts found fit o. orderly_piece piece client hosts found o;
}

pub orderly_by_part : (events : List HostEvent) → IsKeptByPart events IsOrderly
orderly_by_part events = record {
  taking = record {
    steps = orderly_by_step;
    untaken = λ untaken hosts o. o;
    joined = λ id hosts joins new o. orderly_joining id hosts new o;
  };
  sent = λ client count hosts found o. orderly_sent client count hosts found o;
}

pub orderly_step : (step : Turn → Turn → Type 0) (before after : Hosts) → IsStep step before after → IsOrderly before
    → IsOrderly after
orderly_step step before after s o = kept_step IsOrderly orderly_by_step step before after s o

pub orderly_part : (asked : Asked) (before after : Hosts) → IsHostPart asked before after → IsOrderly before
    → IsOrderly after
orderly_part asked before after p o = subst IsOrderly (sym p.done)
    (kept_part asked IsOrderly before after p (orderly_by_part asked.events) o)

-- nobody came yet
pub orderly_new : (config : Config) (seed : ℕ) → IsOrderly (new_hosts config seed)
orderly_new config seed = record {
  first = λ id. record { rest = []; parts = refl; left = tt };
  strangers = λ id new. (refl, refl);
}
