-- What a step says, piece by piece.
use Rattle.host_ports.proofs.Common.{◌==◌, ◌||◌, Bool, true, false, List, ◌∷◌, All, Some, list_any, sym, ◌∙◌, ap, subst}
use Rattle.host_ports.proofs.Common.{arith, inl, inr, get_or, set, eqb-true, cond-true, cond-false, or_cases, true≢false}
use Rattle.host_ports.proofs.Common.{false_from_ne_true, le-leb, take_more, list_any-append, Piece, HostParts, Client}
use Rattle.host_ports.proofs.Common.{ReportLine, AreParts, Moves, Narrows, is_named, Hosts, cutting, appending}
use Rattle.host_ports.proofs.Common.{appending_one, appending_to, closing_all, closing_one, waiting_too, with_waiting}
use Rattle.host_ports.proofs.Common.{fits, client_of, is_client_of, is_among, is_within, most_octets, octets_of, with_piece}
use Rattle.std.specs.Prelude.{◌≡◌, ℕ, ◌+◌, ◌<◌, ◌≤◌, [], ◌++◌, length, take, refl}
use Rattle.std.specs.Vec.{with_item}
use Rattle.std.proofs.lemmas.Bool.{lt-leb}
use Rattle.station.specs.StandsFor.{StandsFor as StandsForStation}
use Rattle.host_ports.proofs.ClientLemmas.{waiting_names, waiting_length, waiting_same}
use Rattle.host_ports.proofs.MoveLemmas.{moves_then, moves_as}

-- ---- all pieces

appending-snoc : (closed : List ℕ) (pieces : List Piece) (piece : Piece) (hosts : Hosts)
    → appending closed (pieces ++ piece ∷ []) hosts ≡ appending_one closed piece (appending closed pieces hosts)
appending-snoc closed [] piece hosts = refl
appending-snoc closed (first ∷ pieces) piece hosts =
    appending-snoc closed pieces piece (appending_one closed first hosts)

-- a piece more
pub append_more : (closed : List ℕ) (pieces : List Piece) (i : ℕ) (d : Piece) (a b c : HostParts) → i < length pieces
    → Moves (appending closed (take i pieces)) a b → Moves (appending_one closed (get_or pieces i d)) b c
    → Moves (appending closed (take (i + 1) pieces)) a c
append_more closed pieces i d a b c within first second =
    moves_as (λ hosts. appending_one closed (get_or pieces i d) (appending closed (take i pieces) hosts))
    (appending closed (take (i + 1) pieces)) a c
    (λ hosts. sym (ap (λ ps. appending closed ps hosts) (take_more pieces i d within)
    ∙ appending-snoc closed (take i pieces) (get_or pieces i d) hosts))
    (moves_then (appending closed (take i pieces)) (appending_one closed (get_or pieces i d)) a b c first second)

-- ---- one piece

-- the clients are as they were but for what waits
pub record Waits (id : ℕ) (waiting : List (List ℕ)) (a b : HostParts) : Type 0 where
  pub station : b.station ≡ a.station
  pub came : b.came ≡ a.came
  pub clients : b.clients.items ≡ with_waiting id waiting a.clients.items
  pub untaken : b.untaken ≡ a.untaken
  pub report : b.report ≡ a.report
  pub to_shut : b.to_shut ≡ a.to_shut
  pub leaving : b.leaving ≡ a.leaving

pub waits_stands : (id : ℕ) (waiting : List (List ℕ)) (a b : HostParts) → Waits id waiting a b
    → Moves (λ hosts. record hosts { clients = with_waiting id waiting hosts.clients }) a b
waits_stands id waiting a b s = λ printed hosts h. record {
  station = subst (λ t. StandsForStation t hosts.station) (sym s.station) h.station;
  came = λ other. ap (λ ranges. is_within other ranges.items) s.came ∙ h.came other;
  clients = ap (with_waiting id waiting) h.clients ∙ sym s.clients;
  untaken = h.untaken ∙ ap (λ all. all.items) (sym s.untaken);
  report = h.report ∙ ap (λ report. printed ++ report.items) (sym s.report);
  to_shut = h.to_shut ∙ ap (λ ids. ids.items) (sym s.to_shut);
  leaving = h.leaving ∙ ap (λ ids. ids.items) (sym s.leaving);
}

pub waits_narrows : (id : ℕ) (waiting : List (List ℕ)) (a b : HostParts) → Waits id waiting a b → Narrows a b
waits_narrows id waiting a b s = record {
  station = s.station;
  came = s.came;
  named = λ other named.
      sym (ap (λ clients. list_any (is_client_of other) clients || is_among other b.leaving.items) s.clients
      ∙ ap (λ t. t || is_among other b.leaving.items) (waiting_names id other waiting a.clients.items)
      ∙ ap (λ ids. list_any (is_client_of other) a.clients.items || is_among other ids.items) s.leaving) ∙ named;
  pieces = λ pieces. subst (λ all. All (λ one. length one.octets ≤ 17) all.items) (sym s.untaken) pieces;
  lighter =
      let clients = ap length s.clients ∙ waiting_length id waiting a.clients.items in
      let leaving = ap (λ ids. length ids.items) s.leaving in
      omega arith;
}

-- the client of a connection stands at a place, so what is put there waits for that connection
pub record IsClientAt (id at : ℕ) (client : Client) (clients : List Client) : Type 0 where
  pub found : client_of id clients ≡ Some client
  pub same : client.id ≡ id
  pub written : (waiting : List (List ℕ)) → set clients at (record { id = client.id; waiting = waiting })
      ≡ with_waiting id waiting clients

pub stands_at : (id at : ℕ) (client : Client) (seen clients : List Client) → seen ≡ clients → client ≡ get_or clients at client
    → client_of id seen ≡ Some (get_or seen at client) → (get_or seen at client).id ≡ id
    → ((waiting : List (List ℕ)) → with_waiting id waiting seen
    ≡ set seen at (record (get_or seen at client) { waiting = waiting }))
    → IsClientAt id at client clients
stands_at id at client seen clients is value found same written =
    let one : client ≡ get_or seen at client = value ∙ ap (λ ls. get_or ls at client) (sym is) in
    subst (IsClientAt id at client) is (record {
      found = found ∙ ap (λ (l : Client). Some l) (sym one);
      same = ap (λ (l : Client). l.id) one ∙ same;
      written = λ waiting. ap (λ (l : Client). set seen at (record { id = l.id; waiting = waiting })) one
          ∙ sym (written waiting);
    })

pub waits_at : (id at : ℕ) (client : Client) (now waiting : List (List ℕ)) (a : HostParts)
    → IsClientAt id at client a.clients.items → now ≡ waiting
    → Waits id waiting a (record a { clients = with_item a.clients at (record { id = client.id; waiting = now }) })
waits_at id at client now waiting a there is = record {
  station = refl;
  came = refl;
  clients = there.written now ∙ ap (λ ws. with_waiting id ws a.clients.items) is;
  untaken = refl;
  report = refl;
  to_shut = refl;
  leaving = refl;
}

-- it fits
pub append_fits : (piece : Piece) (client : Client) (a b : HostParts) → client_of piece.id a.clients.items ≡ Some client
    → client.id ≡ piece.id → length (octets_of client.waiting) + length piece.octets ≤ most_octets
    → Waits piece.id (with_piece piece.octets client.waiting) a b
    → Moves (λ hosts. appending_to (client_of piece.id hosts.clients) piece hosts) a b
append_fits piece client a b found same room s = λ printed hosts h.
    let stands = waits_stands piece.id (with_piece piece.octets client.waiting) a b s printed hosts h in
    let now : AreParts b printed (waiting_too piece client hosts) = record {
      station = stands.station;
      came = stands.came;
      clients = ap (λ id. with_waiting id (with_piece piece.octets client.waiting) hosts.clients) same ∙ stands.clients;
      untaken = stands.untaken;
      report = stands.report;
      to_shut = stands.to_shut;
      leaving = stands.leaving;
    } in
    subst (AreParts b printed)
    (sym (ap (λ one. appending_to one piece hosts) (ap (client_of piece.id) h.clients ∙ found)
    ∙ cond-true (fits piece.octets client.waiting) (waiting_too piece client hosts) (cutting client.id hosts)
    (le-leb (length (octets_of client.waiting) + length piece.octets) most_octets room)))
    now

-- what waits is as it was
pub stands_still : (id : ℕ) (client : Client) (a b : HostParts) (printed : List ReportLine) (hosts : Hosts)
    → client_of id a.clients.items ≡ Some client → Waits id client.waiting a b → AreParts a printed hosts
    → AreParts b printed hosts
stands_still id client a b printed hosts found s h =
    subst (λ clients. AreParts b printed (record hosts { clients = clients }))
    (waiting_same id hosts.clients client (ap (client_of id) h.clients ∙ found))
    (waits_stands id client.waiting a b s printed hosts h)

-- it does not
pub append_cuts : (piece : Piece) (client : Client) (a b c : HostParts) → client_of piece.id a.clients.items ≡ Some client
    → client.id ≡ piece.id → most_octets < length (octets_of client.waiting) + length piece.octets
    → Waits piece.id client.waiting a b → Moves (cutting piece.id) b c
    → Moves (λ hosts. appending_to (client_of piece.id hosts.clients) piece hosts) a c
append_cuts piece client a b c found same full s moves = λ printed hosts h.
    let found_too : client_of piece.id hosts.clients ≡ Some client = ap (client_of piece.id) h.clients ∙ found in
    let stands : AreParts b printed hosts = stands_still piece.id client a b printed hosts found s h in
    subst (AreParts c printed)
    (sym (ap (λ one. appending_to one piece hosts) found_too
    ∙ cond-false (fits piece.octets client.waiting) (waiting_too piece client hosts) (cutting client.id hosts)
    (lt-leb (length (octets_of client.waiting) + length piece.octets) most_octets full)
    ∙ ap (λ id. cutting id hosts) same))
    (moves printed hosts stands)

-- ---- the connections that the step closes

closing_all-snoc : (ids : List ℕ) (id : ℕ) (hosts : Hosts)
    → closing_all (ids ++ id ∷ []) hosts ≡ closing_one id (closing_all ids hosts)
closing_all-snoc [] id hosts = refl
closing_all-snoc (first ∷ ids) id hosts = closing_all-snoc ids id (closing_one first hosts)

pub close_more : (ids : List ℕ) (i : ℕ) (a b c : HostParts) → i < length ids → Moves (closing_all (take i ids)) a b
    → Moves (closing_one (get_or ids i 0)) b c → Moves (closing_all (take (i + 1) ids)) a c
close_more ids i a b c within first second =
    moves_as (λ hosts. closing_one (get_or ids i 0) (closing_all (take i ids) hosts)) (closing_all (take (i + 1) ids))
    a c
    (λ hosts. sym (ap (λ some. closing_all some hosts) (take_more ids i 0 within)
    ∙ closing_all-snoc (take i ids) (get_or ids i 0) hosts))
    (moves_then (closing_all (take i ids)) (closing_one (get_or ids i 0)) a b c first second)

or_nothing : (b : Bool) → (b || false) ≡ b
or_nothing true = refl
or_nothing false = refl

-- those so far are gone
pub gone_more : (ids : List ℕ) (i : ℕ) (b c : HostParts) → i < length ids
    → ((id : ℕ) → is_among id (take i ids) ≡ true → is_named id b ≡ false) → Narrows b c
    → is_named (get_or ids i 0) c ≡ false
    → (id : ℕ) → is_among id (take (i + 1) ids) ≡ true → is_named id c ≡ false
gone_more ids i b c within before narrows gone id among =
    let one : ℕ = get_or ids i 0 in
    let either : (is_among id (take i ids) || ((one == id) || false)) ≡ true =
    sym (list_any-append (λ other. other == id) (take i ids) (one ∷ []))
    ∙ ap (is_among id) (sym (take_more ids i 0 within)) ∙ among in
    elim (or_cases (is_among id (take i ids)) ((one == id) || false) either) [
      | inl was ↦ false_from_ne_true (is_named id c) (λ named. true≢false (sym (narrows.named id named)
          ∙ before id was))
      | inr same ↦ subst (λ n. is_named n c ≡ false) (eqb-true one id (sym (or_nothing (one == id)) ∙ same)) gone
    ]
