-- What each change of hosts keeps, each step keeps, and so does each part of a turn.
use Rattle.host_ports.proofs.Common.{zero, suc, true, false, List, ◌∷◌, Option, Some, None, list_any, sym, ◌∙◌, ap}
use Rattle.host_ports.proofs.Common.{subst, inl, inr, cases_Bool, cond-true, cond-false, or_left, or_right, StationState}
use Rattle.host_ports.proofs.Common.{HostEvent, Joined, Bytes, Left, Piece, Turn, Client, Untaken, Hosts, without, closing}
use Rattle.host_ports.proofs.Common.{cutting, waiting_too, with_waiting, fits, appending, appending_one, appending_to}
use Rattle.host_ports.proofs.Common.{closing_one, closing_all, client_of, is_among, is_there, was_there, IsDelivered}
use Rattle.host_ports.proofs.Common.{HaveLeft, AllHaveLeft, IsStep, Asked, Offering, InOrder, IsTried, AreTried}
use Rattle.host_ports.proofs.Common.{AreTaken, IsTaken, IsOffered, IsOfferedTo, IsHostPart, joining, ids_of_clients}
use Rattle.host_ports.proofs.Common.{is_joining_of, after_sending, front_of}
use Rattle.std.specs.Prelude.{◌≡◌, ℕ, [], ◌++◌, take, refl}
use Rattle.host_ports.proofs.ClientLemmas.{there_client, found_id}
use Rattle.host_ports.proofs.NamedLemmas.{itself}

-- the connection takes so many octets of its front piece
abbrev pub sending : Client → ℕ → Hosts → Hosts
sending client count hosts = record hosts {
  clients = with_waiting client.id (after_sending count client.waiting) hosts.clients;
  sent = hosts.sent ++ (record { id = client.id; octets = take count (front_of client.waiting) }) ∷ [];
}

-- what each change keeps that a step makes
pub record IsKeptByStep (P : Hosts → Type 0) : Type 0 where
  pub stepped : (hosts : Hosts) (station : StationState) → P hosts → P (record hosts { station = station })
  pub left : (id : ℕ) (hosts : Hosts) → P hosts → P (without id hosts)
  pub shut : (id : ℕ) (hosts : Hosts) → is_there id hosts ≡ true → P hosts → P (closing id hosts)
  pub leaving : (ids : List ℕ) (hosts : Hosts) → P hosts → P (record hosts { leaving = ids })
  pub piece : (piece : Piece) (client : Client) (hosts : Hosts) → client_of piece.id hosts.clients ≡ Some client
      → fits piece.octets client.waiting ≡ true → P hosts → P (waiting_too piece client hosts)

-- and each that comes of events
pub record IsKeptByTaking (events : List HostEvent) (P : Hosts → Type 0) : Type 0 where
  pub steps : IsKeptByStep P
  pub untaken : (untaken : List Untaken) (hosts : Hosts) → P hosts → P (record hosts { untaken = untaken })
  pub joined : (id : ℕ) (hosts : Hosts) → list_any (is_joining_of id) events ≡ true → was_there id hosts ≡ false
      → P hosts → P (joining id hosts)

-- and each that a part of a turn makes
pub record IsKeptByPart (events : List HostEvent) (P : Hosts → Type 0) : Type 0 where
  pub taking : IsKeptByTaking events P
  pub sent : (client : Client) (count : ℕ) (hosts : Hosts) → client_of client.id hosts.clients ≡ Some client → P hosts
      → P (sending client count hosts)

-- ---- a step

module _ (P : Hosts → Type 0) (k : IsKeptByStep P) where
  kept_cutting : (id : ℕ) (hosts : Hosts) → is_there id hosts ≡ true → P hosts → P (cutting id hosts)
  kept_cutting id hosts there p = k.leaving ((closing id hosts).leaving ++ id ∷ []) (closing id hosts)
      (k.shut id hosts there p)

  kept_appending_to : (client : Option Client) (piece : Piece) (hosts : Hosts) → client_of piece.id hosts.clients ≡ client
      → P hosts → P (appending_to client piece hosts)
  kept_appending_to None piece hosts found p = p
  kept_appending_to (Some client) piece hosts found p = elim (cases_Bool (fits piece.octets client.waiting)) [
    | inl is ↦ subst P (sym (cond-true (fits piece.octets client.waiting) (waiting_too piece client hosts)
        (cutting client.id hosts) is)) (k.piece piece client hosts found is p)
    | inr isnt ↦
        let there : is_there client.id hosts ≡ true =
        there_client client.id hosts.clients client (ap (λ n. client_of n hosts.clients) (found_id piece.id hosts.clients client found)
        ∙ found) in
        subst P (sym (cond-false (fits piece.octets client.waiting) (waiting_too piece client hosts) (cutting client.id hosts)
        isnt)) (kept_cutting client.id hosts there p)
  ]

  kept_appending_one : (closed : List ℕ) (piece : Piece) (hosts : Hosts) → P hosts
      → P (appending_one closed piece hosts)
  kept_appending_one closed piece hosts p = elim (cases_Bool (is_among piece.id closed)) [
    | inl is ↦ subst P (sym (cond-true (is_among piece.id closed) hosts
        (appending_to (client_of piece.id hosts.clients) piece hosts) is)) p
    | inr isnt ↦
        subst P (sym (cond-false (is_among piece.id closed) hosts
        (appending_to (client_of piece.id hosts.clients) piece hosts) isnt))
        (kept_appending_to (client_of piece.id hosts.clients) piece hosts refl p)
  ]

  kept_appending : (closed : List ℕ) (pieces : List Piece) (hosts : Hosts) → P hosts → P (appending closed pieces hosts)
  kept_appending closed [] hosts p = p
  kept_appending closed (piece ∷ pieces) hosts p = kept_appending closed pieces (appending_one closed piece hosts)
      (kept_appending_one closed piece hosts p)

  kept_closing_one : (id : ℕ) (hosts : Hosts) → P hosts → P (closing_one id hosts)
  kept_closing_one id hosts p = elim (cases_Bool (is_there id hosts)) [
    | inl is ↦ subst P (sym (cond-true (is_there id hosts) (closing id hosts) (without id hosts) is))
        (k.shut id hosts is p)
    | inr isnt ↦ subst P (sym (cond-false (is_there id hosts) (closing id hosts) (without id hosts) isnt))
        (k.left id hosts p)
  ]

  kept_closing_all : (ids : List ℕ) (hosts : Hosts) → P hosts → P (closing_all ids hosts)
  kept_closing_all [] hosts p = p
  kept_closing_all (id ∷ ids) hosts p = kept_closing_all ids (closing_one id hosts) (kept_closing_one id hosts p)

  kept_delivered : (step : Turn → Turn → Type 0) (before after : Hosts) → IsDelivered step before after → P before
      → P after
  kept_delivered step before after d p =
      subst P (sym d.delivered)
      (kept_closing_all d.out.closed (appending d.out.closed d.out.pieces (record before { station = d.next }))
      (kept_appending d.out.closed d.out.pieces (record before { station = d.next }) (k.stepped before d.next p)))

  kept_some_left : (count : ℕ) (before after : Hosts) → HaveLeft count before after → P before → P after
  kept_some_left zero before after left p = subst P (sym left) p
  kept_some_left (suc count) before after left p =
      let first = left.2 in
      kept_delivered _ (without first.id left.0) after first.told
      (k.left first.id left.0 (kept_some_left count before left.0 left.1 p))

  pub kept_left : (before after : Hosts) → AllHaveLeft before after → P before → P after
  kept_left before after left p = kept_some_left left.count before after left.have_left p

  pub kept_step : (step : Turn → Turn → Type 0) (before after : Hosts) → IsStep step before after → P before → P after
  kept_step step before after s p = kept_left s.between after s.leave
      (kept_delivered step before s.between s.delivers p)

-- ---- the part of a turn

pub kept_in_order : {A S : Type 0} (P : S → Type 0) (step : A → S → S → Type 0)
    → ((x : A) (before after : S) → step x before after → P before → P after)
    → (xs : List A) (before after : S) → InOrder step xs before after → P before → P after
kept_in_order P step keeps [] before after run p = subst P (sym run) p
kept_in_order P step keeps (x ∷ xs) before after run p =
    kept_in_order P step keeps xs run.0 after run.2 (keeps x before run.0 run.1 p)

module _ (all : List HostEvent) (P : Hosts → Type 0) (k : IsKeptByTaking all P) where
  kept_taken : (id : ℕ) (octets : List ℕ) (before after : Hosts) → AreTaken id octets before after → P before → P after
  kept_taken id octets before after taken p = elim taken [
    | inl over ↦ subst P (sym over.1) p
    | inr rest ↦ elim rest [
      | inl waits ↦ subst P (sym waits.2) (k.untaken (before.untaken ++ (record { id = id; octets = octets }) ∷ [])
          before p)
      | inr goes ↦ kept_step P k.steps _ before after goes.2 p
    ]
  ]

  pub kept_tried : (before after : Hosts) → AreTried before after → P before → P after
  kept_tried before after tried p =
      kept_in_order P IsTried (λ one b a. kept_taken one.id one.octets b a) before.untaken
      (record before { untaken = [] }) after tried (k.untaken [] before p)

  kept_event : (event : HostEvent) → ((id : ℕ) → is_joining_of id event ≡ true → list_any (is_joining_of id) all ≡ true)
      → (before after : Hosts) → IsTaken event before after → P before → P after
  kept_event (Joined id kind) among before after taken p = elim taken [
    | inl was ↦ subst P (sym was.1) p
    | inr new ↦ kept_step P k.steps _ (joining id before) after new.1
        (k.joined id before (among id (itself id)) new.0 p)
  ]
  kept_event (Bytes id octets) among before after taken p = kept_taken id octets before after taken p
  kept_event (Left id) among before after taken p = elim taken [
    | inl nobody ↦ subst P (sym nobody.1) p
    | inr there ↦ kept_step P k.steps _ (without id before) after there.1 (k.steps.left id before p)
  ]

  kept_events : (events : List HostEvent) → ((id : ℕ) → list_any (is_joining_of id) events ≡ true
      → list_any (is_joining_of id) all ≡ true)
      → (before after : Hosts) → InOrder IsTaken events before after → P before → P after
  kept_events [] among before after run p = subst P (sym run) p
  kept_events (event ∷ events) among before after run p =
      kept_events events (λ id joins. among id (or_right (is_joining_of id event) (list_any (is_joining_of id) events)
      joins)) run.0 after run.2
      (kept_event event (λ id joins. among id (or_left (is_joining_of id event) (list_any (is_joining_of id) events)
      joins)) before run.0 run.1 p)

  pub kept_takes : (before after : Hosts) → InOrder IsTaken all before after → P before → P after
  kept_takes before after run p = kept_events all (λ id joins. joins) before after run p

module _ (all : List HostEvent) (P : Hosts → Type 0) (k : IsKeptByPart all P) where
  kept_offered_to : (id : ℕ) (client : Option Client) (before after : Offering) → client_of id before.hosts.clients ≡ client
      → IsOfferedTo client before after → P before.hosts → P after.hosts
  kept_offered_to id None before after found offered p = subst (λ (s : Offering). P s.hosts) (sym offered) p
  kept_offered_to id (Some client) before after found offered p =
      let own : client_of client.id before.hosts.clients ≡ Some client =
      ap (λ n. client_of n before.hosts.clients) (found_id id before.hosts.clients client found) ∙ found in
      elim offered [
        | inl nothing ↦ subst (λ (s : Offering). P s.hosts) (sym nothing.1) p
        | inr rest ↦ elim rest [
          | inl takes ↦ subst P (sym takes.1.rest) (k.sent client takes.1.took before.hosts own p)
          | inr fails ↦ kept_left P k.taking.steps (cutting client.id before.hosts) after.hosts fails.1.leave
              (kept_cutting P k.taking.steps client.id before.hosts (there_client client.id before.hosts.clients client own) p)
        ]
      ]

  pub kept_offers : (ids : List ℕ) (before after : Offering) → InOrder IsOffered ids before after → P before.hosts
      → P after.hosts
  kept_offers ids before after run p =
      kept_in_order (λ (s : Offering). P s.hosts) IsOffered
      (λ id b a o. kept_offered_to id (client_of id b.hosts.clients) b a refl o) ids before after run p

-- up to what is sent
pub kept_part : (asked : Asked) (P : Hosts → Type 0) (before after : Hosts) → (p : IsHostPart asked before after)
    → IsKeptByPart asked.events P → P before → P p.offered.hosts
kept_part asked P before after p k h =
    kept_offers asked.events P k (ids_of_clients p.taken.clients) (record { hosts = p.taken; offers = []; failed = [] })
    p.offered p.offers
    (kept_takes asked.events P k.taking p.tried p.taken p.takes
    (kept_tried asked.events P k.taking before p.tried p.tries h))
