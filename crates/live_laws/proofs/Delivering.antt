-- What a step says to one connection, piece by piece: what is appended for it is a first part of the pieces for it, all
-- of them if it is there afterwards.
use Rattle.tnc_ports.proofs.Common.{◌≡◌, ◌⊎◌, ℕ, ◌==◌, ◌||◌, Bool, true, false, not, cond, List, [], ◌∷◌, ◌++◌}
use Rattle.tnc_ports.proofs.Common.{Option, Some, None, refl, sym, ap, ◌∙◌, subst, inl, inr, list_any, append-nil}
use Rattle.tnc_ports.proofs.Common.{append_assoc, eq-eqb, ne_eqb, cases_eq, false≢true, true≢false}
use Rattle.tnc_ports.proofs.Common.{or_parts, Out, Piece, Hosts, without, closing, cutting}
use Rattle.tnc_ports.proofs.Common.{waiting_too, fits, appending, appending_one, appending_to}
use Rattle.tnc_ports.proofs.Common.{closing_one, closing_all, delivering, client_of, is_among, is_client_of, is_there, was_there}
use Rattle.tnc_ports.proofs.Common.{with_piece, length, most_octets, octets_of, arith, ◌+◌, ◌≤◌}
use Rattle.host_ports.specs.declared.client.Client.{Client}
use Rattle.std.specs.List.{AllByRecursion as Each}
use Rattle.std.specs.Prelude.{◌&&◌}
use Rattle.std.proofs.lemmas.Bool.{leb-true}
use Rattle.host_ports.proofs.ClientLemmas.{found_id, there_client, waiting_names}
use Rattle.host_ports.proofs.NamedLemmas.{ids_without, clients_without, not_itself}
use Rattle.tnc_ports.proofs.ServedLemmas.{among_snoc}
use Rattle.call_laws.specs.Client.{pieces_for}
use Rattle.call_laws.proofs.Sayings.{pieces_both}

-- ---- what changes nothing for one connection

-- what is appended for it, whether it is there, and whether the station is to be told that it left
pub record Stands (id : ℕ) (a b : Hosts) : Type 0 where
  pub appended : pieces_for id b.appended ≡ pieces_for id a.appended
  pub there : is_there id b ≡ is_there id a
  pub came : was_there id b ≡ was_there id a
  pub leaves : is_among id b.leaving ≡ is_among id a.leaving

pub stands_same : (id : ℕ) (a : Hosts) → Stands id a a
stands_same id a = record { appended = refl; there = refl; came = refl; leaves = refl }

stands_on : (id : ℕ) (a b c : Hosts) → Stands id a b → Stands id b c → Stands id a c
stands_on id a b c h k = record {
  appended = k.appended ∙ h.appended;
  there = k.there ∙ h.there;
  came = k.came ∙ h.came;
  leaves = k.leaves ∙ h.leaves;
}

not_same : (id other : ℕ) → (other ≡ id → ⊥) → (id == other) ≡ false
not_same id other differs = ne_eqb id other (λ e. differs (sym e))

drops_none : (b c : Bool) → b ≡ false → (not b && c) ≡ c
drops_none true c is = absurd (true≢false is)
drops_none false c is = refl

pub or_nothing : (b c : Bool) → c ≡ false → (b || c) ≡ b
or_nothing true c is = refl
or_nothing false c is = is

-- another connection is taken away
pub stands_without : (id other : ℕ) (hosts : Hosts) → (other ≡ id → ⊥) → Stands id hosts (without other hosts)
stands_without id other hosts differs = record {
  appended = refl;
  there = clients_without other id hosts.clients
      ∙ drops_none (id == other) (is_there id hosts) (not_same id other differs);
  came = refl;
  leaves = ids_without other id hosts.leaving
      ∙ drops_none (id == other) (is_among id hosts.leaving) (not_same id other differs);
}

stands_closing : (id other : ℕ) (hosts : Hosts) → (other ≡ id → ⊥) → Stands id hosts (closing other hosts)
stands_closing id other hosts differs =
    let h = stands_without id other hosts differs in
    record { appended = h.appended; there = h.there; came = h.came; leaves = h.leaves }

pub stands_cutting : (id other : ℕ) (hosts : Hosts) → (other ≡ id → ⊥) → Stands id hosts (cutting other hosts)
stands_cutting id other hosts differs =
    let h = stands_without id other hosts differs in
    record {
      appended = h.appended;
      there = h.there;
      came = h.came;
      leaves = among_snoc id (without other hosts).leaving other
          ∙ or_nothing (is_among id (without other hosts).leaving) (other == id) (ne_eqb other id differs) ∙ h.leaves;
    }

-- ---- one that is taken away is not there

pub gone_without : (id : ℕ) (hosts : Hosts) → is_there id (without id hosts) ≡ false
gone_without id hosts = clients_without id id hosts.clients ∙ not_itself id (is_there id hosts)

unheard_without : (id : ℕ) (hosts : Hosts) → is_among id (without id hosts).leaving ≡ false
unheard_without id hosts = ids_without id id hosts.leaving ∙ not_itself id (is_among id hosts.leaving)

no_client_there : (id : ℕ) (clients : List Client) → client_of id clients ≡ None → list_any (is_client_of id) clients ≡ false
no_client_there id [] none = refl
no_client_there id (client ∷ clients) none = go (client.id == id) none (no_client_there id clients)
  where
    go : (b : Bool) → cond b (Some client) (client_of id clients) ≡ None
        → (client_of id clients ≡ None → list_any (is_client_of id) clients ≡ false)
        → (b || list_any (is_client_of id) clients) ≡ false
    go true is rest = absurd (cc)
    go false is rest = rest is

-- ---- a piece

for_other : (id : ℕ) (piece : Piece) (pieces : List Piece) → (piece.id ≡ id → ⊥)
    → pieces_for id (piece ∷ pieces) ≡ pieces_for id pieces
for_other id piece pieces differs =
    ap (λ b. cond b (piece ∷ pieces_for id pieces) (pieces_for id pieces)) (ne_eqb piece.id id differs)

for_own : (id : ℕ) (piece : Piece) (pieces : List Piece) → piece.id ≡ id
    → pieces_for id (piece ∷ pieces) ≡ piece ∷ pieces_for id pieces
for_own id piece pieces same =
    ap (λ b. cond b (piece ∷ pieces_for id pieces) (pieces_for id pieces)) (eq-eqb piece.id id same)

-- for another connection
piece_stands : (id : ℕ) (closed : List ℕ) (piece : Piece) (hosts : Hosts) → (piece.id ≡ id → ⊥)
    → Stands id hosts (appending_one closed piece hosts)
piece_stands id closed piece hosts differs = by_closed (is_among piece.id closed)
  where
    by_fit : (client : Client) → (client.id ≡ id → ⊥) → (b : Bool)
        → Stands id hosts (cond b (waiting_too piece client hosts) (cutting client.id hosts))
    by_fit client other true = record {
      appended = pieces_both id hosts.appended (piece ∷ [])
          ∙ ap (λ ps. pieces_for id hosts.appended ++ ps) (for_other id piece [] differs)
          ∙ append-nil (pieces_for id hosts.appended);
      there = waiting_names client.id id (with_piece piece.octets client.waiting) hosts.clients;
      came = refl;
      leaves = refl;
    }
    by_fit client other false = stands_cutting id client.id hosts other

    by_client : (client : Option Client) → client_of piece.id hosts.clients ≡ client
        → Stands id hosts (appending_to client piece hosts)
    by_client None is = stands_same id hosts
    by_client (Some client) is =
        by_fit client (λ e. differs (sym (found_id piece.id hosts.clients client is) ∙ e)) (fits piece.octets client.waiting)

    by_closed : (b : Bool)
        → Stands id hosts (cond b hosts (appending_to (client_of piece.id hosts.clients) piece hosts))
    by_closed true = stands_same id hosts
    by_closed false = by_client (client_of piece.id hosts.clients) refl

-- for one that the step closes
closed_stands : (id : ℕ) (closed : List ℕ) (piece : Piece) (hosts : Hosts) → is_among id closed ≡ true
    → Stands id hosts (appending_one closed piece hosts)
closed_stands id closed piece hosts closes = elim (cases_eq piece.id id) [
  | inl same ↦
      subst (λ b. Stands id hosts (cond b hosts (appending_to (client_of piece.id hosts.clients) piece hosts)))
      (sym (ap (λ n. is_among n closed) same ∙ closes)) (stands_same id hosts)
  | inr differs ↦ piece_stands id closed piece hosts differs
]

-- for one that is not there
absent_stands : (id : ℕ) (closed : List ℕ) (piece : Piece) (hosts : Hosts) → is_there id hosts ≡ false
    → Stands id hosts (appending_one closed piece hosts)
absent_stands id closed piece hosts absent = elim (cases_eq piece.id id) [
  | inl same ↦ by_closed same (is_among piece.id closed)
  | inr differs ↦ piece_stands id closed piece hosts differs
]
  where
    by_client : (same : piece.id ≡ id) (client : Option Client) → client_of piece.id hosts.clients ≡ client
        → Stands id hosts (appending_to client piece hosts)
    by_client same None is = stands_same id hosts
    by_client same (Some client) is =
        absurd (true≢false (sym (there_client id hosts.clients client (ap (λ n. client_of n hosts.clients) (sym same) ∙ is))
        ∙ absent))

    by_closed : (same : piece.id ≡ id) (b : Bool)
        → Stands id hosts (cond b hosts (appending_to (client_of piece.id hosts.clients) piece hosts))
    by_closed same true = stands_same id hosts
    by_closed same false = by_client same (client_of piece.id hosts.clients) refl

-- ---- all pieces

closed_all : (id : ℕ) (closed : List ℕ) (pieces : List Piece) (hosts : Hosts) → is_among id closed ≡ true
    → Stands id hosts (appending closed pieces hosts)
closed_all id closed [] hosts closes = stands_same id hosts
closed_all id closed (piece ∷ pieces) hosts closes =
    let next = appending_one closed piece hosts in
    stands_on id hosts next (appending closed pieces next) (closed_stands id closed piece hosts closes)
    (closed_all id closed pieces next closes)

absent_all : (id : ℕ) (closed : List ℕ) (pieces : List Piece) (hosts : Hosts) → is_there id hosts ≡ false
    → Stands id hosts (appending closed pieces hosts)
absent_all id closed [] hosts absent = stands_same id hosts
absent_all id closed (piece ∷ pieces) hosts absent =
    let next = appending_one closed piece hosts in
    let one = absent_stands id closed piece hosts absent in
    stands_on id hosts next (appending closed pieces next) one
    (absent_all id closed pieces next (one.there ∙ absent))

-- how one that is there stands afterwards: it is there still and all was appended, or it is gone
abbrev pub StaysOrGoes : ℕ → List Piece → Hosts → Type 0
StaysOrGoes id more now =
    ((is_there id now ≡ true) × (is_among id now.leaving ≡ false) × (more ≡ [])) ⊎ (is_there id now ≡ false)

-- no longer than all that may wait
abbrev pub IsShort : Piece → Type 0
IsShort piece = length piece.octets ≤ most_octets

-- what fits beside what waits is short
fits_short : (piece : Piece) (waiting : List (List ℕ)) → fits piece.octets waiting ≡ true → IsShort piece
fits_short piece waiting is =
    let room = leb-true (length (octets_of waiting) + length piece.octets) most_octets is in omega (arith, room)

-- a first part of the pieces for it is appended
pub record Hears (id : ℕ) (pieces : List Piece) (a b : Hosts) : Type 0 where
  pub first : List Piece
  pub more : List Piece
  pub parts : pieces_for id pieces ≡ first ++ more
  pub appended : pieces_for id b.appended ≡ pieces_for id a.appended ++ first
  pub short : Each IsShort first
  pub came : was_there id b ≡ was_there id a
  pub now : StaysOrGoes id more b

hears_all : (id : ℕ) (closed : List ℕ) (pieces : List Piece) (hosts : Hosts) → is_among id closed ≡ false
    → is_there id hosts ≡ true → is_among id hosts.leaving ≡ false → Hears id pieces hosts (appending closed pieces hosts)
hears_all id closed [] hosts open_still there free = record {
  first = [];
  more = [];
  parts = refl;
  appended = sym (append-nil (pieces_for id hosts.appended));
  short = tt;
  came = refl;
  now = inl (there, free, refl);
}
hears_all id closed (piece ∷ pieces) hosts open_still there free = elim (cases_eq piece.id id) [
  | inl same ↦ own (λ next. hears_all id closed pieces next open_still) same
  | inr differs ↦
      let next = appending_one closed piece hosts in
      let one = piece_stands id closed piece hosts differs in
      let rest = hears_all id closed pieces next open_still (one.there ∙ there) (one.leaves ∙ free) in
      record {
        first = rest.first;
        more = rest.more;
        parts = for_other id piece pieces differs ∙ rest.parts;
        appended = rest.appended ∙ ap (λ ps. ps ++ rest.first) one.appended;
        short = rest.short;
        came = rest.came ∙ one.came;
        now = rest.now;
      }
]
  where
    -- what holds of the pieces after it
    Rest : Type 0
    Rest =
        (next : Hosts) → is_there id next ≡ true → is_among id next.leaving ≡ false
        → Hears id pieces next (appending closed pieces next)

    -- it fits, or it does not
    by_fit : Rest → piece.id ≡ id → (client : Client) → client.id ≡ id → (b : Bool) → fits piece.octets client.waiting ≡ b
        → Hears id (piece ∷ pieces) hosts
        (appending closed pieces (cond b (waiting_too piece client hosts) (cutting client.id hosts)))
    by_fit later same client own_client true room =
        let next = waiting_too piece client hosts in
        let rest = later next
        (waiting_names client.id id (with_piece piece.octets client.waiting) hosts.clients ∙ there) free in
        record {
          first = piece ∷ rest.first;
          more = rest.more;
          parts = for_own id piece pieces same ∙ ap (λ ps. piece ∷ ps) rest.parts;
          appended = rest.appended
              ∙ ap (λ ps. ps ++ rest.first) (pieces_both id hosts.appended (piece ∷ [])
              ∙ ap (λ ps. pieces_for id hosts.appended ++ ps) (for_own id piece [] same))
              ∙ append_assoc (pieces_for id hosts.appended) (piece ∷ []) rest.first;
          short = (fits_short piece client.waiting room, rest.short);
          came = rest.came;
          now = rest.now;
        }
    by_fit later same client own_client false full =
        let next = cutting client.id hosts in
        let gone : is_there id next ≡ false =
        subst (λ n. is_there id (without n hosts) ≡ false) (sym own_client) (gone_without id hosts) in
        let rest = absent_all id closed pieces next gone in
        record {
          first = [];
          more = pieces_for id (piece ∷ pieces);
          parts = refl;
          appended = rest.appended ∙ sym (append-nil (pieces_for id hosts.appended));
          short = tt;
          came = rest.came;
          now = inr (rest.there ∙ gone);
        }

    by_client : Rest → piece.id ≡ id → (client : Option Client) → client_of piece.id hosts.clients ≡ client
        → Hears id (piece ∷ pieces) hosts (appending closed pieces (appending_to client piece hosts))
    by_client later same None is =
        absurd (true≢false (sym there ∙ no_client_there id hosts.clients (ap (λ n. client_of n hosts.clients) (sym same) ∙ is)))
    by_client later same (Some client) is =
        by_fit later same client (found_id piece.id hosts.clients client is ∙ same) (fits piece.octets client.waiting) refl

    own : Rest → piece.id ≡ id → Hears id (piece ∷ pieces) hosts (appending closed (piece ∷ pieces) hosts)
    own later same =
        subst (λ b. Hears id (piece ∷ pieces) hosts (appending closed pieces
        (cond b hosts (appending_to (client_of piece.id hosts.clients) piece hosts))))
        (sym (ap (λ n. is_among n closed) same ∙ open_still)) (by_client later same (client_of piece.id hosts.clients) refl)

-- ---- the connections that the step closes

close_stands : (id other : ℕ) (hosts : Hosts) → (other ≡ id → ⊥) → Stands id hosts (closing_one other hosts)
close_stands id other hosts differs = go (is_there other hosts)
  where
    go : (b : Bool) → Stands id hosts (cond b (closing other hosts) (without other hosts))
    go true = stands_closing id other hosts differs
    go false = stands_without id other hosts differs

-- one that is not there, and of which nothing is to be told, stays so
pub record StaysAway (id : ℕ) (a b : Hosts) : Type 0 where
  pub appended : pieces_for id b.appended ≡ pieces_for id a.appended
  pub absent : is_there id b ≡ false
  pub came : was_there id b ≡ was_there id a
  pub free : is_among id a.leaving ≡ false → is_among id b.leaving ≡ false

away_by : (id : ℕ) (a b c : Hosts) → Stands id a b → StaysAway id b c → StaysAway id a c
away_by id a b c h k = record {
  appended = k.appended ∙ h.appended;
  absent = k.absent;
  came = k.came ∙ h.came;
  free = λ was. k.free (h.leaves ∙ was);
}

away_on : (id : ℕ) (a b c : Hosts) → StaysAway id a b → StaysAway id b c → StaysAway id a c
away_on id a b c h k = record {
  appended = k.appended ∙ h.appended;
  absent = k.absent;
  came = k.came ∙ h.came;
  free = λ was. k.free (h.free was);
}

-- the step closes it
close_own : (id : ℕ) (hosts : Hosts) → StaysAway id hosts (closing_one id hosts)
close_own id hosts = go (is_there id hosts)
  where
    go : (b : Bool) → StaysAway id hosts (cond b (closing id hosts) (without id hosts))
    go true = record {
      appended = refl;
      absent = gone_without id hosts;
      came = refl;
      free = λ was. unheard_without id hosts;
    }
    go false = record {
      appended = refl;
      absent = gone_without id hosts;
      came = refl;
      free = λ was. unheard_without id hosts;
    }

close_away : (id other : ℕ) (hosts : Hosts) → is_there id hosts ≡ false → StaysAway id hosts (closing_one other hosts)
close_away id other hosts absent = elim (cases_eq other id) [
  | inl same ↦ subst (λ n. StaysAway id hosts (closing_one n hosts)) (sym same) (close_own id hosts)
  | inr differs ↦
      let h = close_stands id other hosts differs in
      record {
        appended = h.appended;
        absent = h.there ∙ absent;
        came = h.came;
        free = λ was. h.leaves ∙ was;
      }
]

close_all_away : (id : ℕ) (ids : List ℕ) (hosts : Hosts) → is_there id hosts ≡ false
    → StaysAway id hosts (closing_all ids hosts)
close_all_away id [] hosts absent =
    record { appended = refl; absent = absent; came = refl; free = λ was. was }
close_all_away id (other ∷ ids) hosts absent =
    let next = closing_one other hosts in
    let one = close_away id other hosts absent in
    away_on id hosts next (closing_all ids next) one (close_all_away id ids next one.absent)

close_all_own : (id : ℕ) (ids : List ℕ) (hosts : Hosts) → is_among id ids ≡ true
    → StaysAway id hosts (closing_all ids hosts)
close_all_own id [] hosts among = absurd (false≢true among)
close_all_own id (other ∷ ids) hosts among = elim (cases_eq other id) [
  | inl same ↦
      let next = closing_one other hosts in
      let one : StaysAway id hosts next =
      subst (λ n. StaysAway id hosts (closing_one n hosts)) (sym same) (close_own id hosts) in
      away_on id hosts next (closing_all ids next) one (close_all_away id ids next one.absent)
  | inr differs ↦
      let next = closing_one other hosts in
      away_by id hosts next (closing_all ids next) (close_stands id other hosts differs)
      (close_all_own id ids next (later (other == id) (is_among id ids) (ne_eqb other id differs) among))
]
  where
    later : (a b : Bool) → a ≡ false → (a || b) ≡ true → b ≡ true
    later true b no_a either = absurd (true≢false no_a)
    later false b no_a either = either

close_all_stands : (id : ℕ) (ids : List ℕ) (hosts : Hosts) → is_among id ids ≡ false
    → Stands id hosts (closing_all ids hosts)
close_all_stands id [] hosts among = stands_same id hosts
close_all_stands id (other ∷ ids) hosts among =
    let parts = or_parts (other == id) (is_among id ids) among in
    let next = closing_one other hosts in
    stands_on id hosts next (closing_all ids next)
    (close_stands id other hosts (λ same. true≢false (sym (eq-eqb other id same) ∙ parts.0)))
    (close_all_stands id ids next parts.1)

-- ---- all of a step

-- to one that is not there
pub delivers_away : (id : ℕ) (out : Out) (hosts : Hosts) → is_there id hosts ≡ false
    → StaysAway id hosts (delivering out hosts)
delivers_away id out hosts absent =
    let said = appending out.closed out.pieces hosts in
    let one = absent_all id out.closed out.pieces hosts absent in
    away_by id hosts said (delivering out hosts) one (close_all_away id out.closed said (one.there ∙ absent))

-- to one that it closes
pub delivers_closed : (id : ℕ) (out : Out) (hosts : Hosts) → is_among id out.closed ≡ true
    → StaysAway id hosts (delivering out hosts)
delivers_closed id out hosts closes =
    let said = appending out.closed out.pieces hosts in
    away_by id hosts said (delivering out hosts) (closed_all id out.closed out.pieces hosts closes)
    (close_all_own id out.closed said closes)

-- to any other
pub delivers_heard : (id : ℕ) (out : Out) (hosts : Hosts) → is_among id out.closed ≡ false
    → is_there id hosts ≡ true → is_among id hosts.leaving ≡ false → Hears id out.pieces hosts (delivering out hosts)
delivers_heard id out hosts open_still there free =
    let said = appending out.closed out.pieces hosts in
    let h = hears_all id out.closed out.pieces hosts open_still there free in
    let k = close_all_stands id out.closed said open_still in
    record {
      first = h.first;
      more = h.more;
      parts = h.parts;
      appended = k.appended ∙ h.appended;
      short = h.short;
      came = k.came ∙ h.came;
      now = now h.more k h.now;
    }
  where
    now : (more : List Piece)
        → Stands id (appending out.closed out.pieces hosts) (delivering out hosts)
        → StaysOrGoes id more (appending out.closed out.pieces hosts) → StaysOrGoes id more (delivering out hosts)
    now more k (inl stays) = inl (k.there ∙ stays.0, k.leaves ∙ stays.1, stays.2)
    now more k (inr goes) = inr (k.there ∙ goes)

-- ---- the station

station_cutting : (piece : Piece) (client : Option Client) (hosts : Hosts)
    → (appending_to client piece hosts).station ≡ hosts.station
station_cutting piece None hosts = refl
station_cutting piece (Some client) hosts = go (fits piece.octets client.waiting)
  where
    go : (b : Bool) → (cond b (waiting_too piece client hosts) (cutting client.id hosts)).station ≡ hosts.station
    go true = refl
    go false = refl

station_appending : (closed : List ℕ) (pieces : List Piece) (hosts : Hosts)
    → (appending closed pieces hosts).station ≡ hosts.station
station_appending closed [] hosts = refl
station_appending closed (piece ∷ pieces) hosts =
    station_appending closed pieces (appending_one closed piece hosts) ∙ go (is_among piece.id closed)
  where
    go : (b : Bool)
        → (cond b hosts (appending_to (client_of piece.id hosts.clients) piece hosts)).station ≡ hosts.station
    go true = refl
    go false = station_cutting piece (client_of piece.id hosts.clients) hosts

station_closing : (ids : List ℕ) (hosts : Hosts) → (closing_all ids hosts).station ≡ hosts.station
station_closing [] hosts = refl
station_closing (id ∷ ids) hosts = station_closing ids (closing_one id hosts) ∙ go (is_there id hosts)
  where
    go : (b : Bool) → (cond b (closing id hosts) (without id hosts)).station ≡ hosts.station
    go true = refl
    go false = refl

pub station_delivering : (out : Out) (hosts : Hosts) → (delivering out hosts).station ≡ hosts.station
station_delivering out hosts =
    station_closing out.closed (appending out.closed out.pieces hosts)
    ∙ station_appending out.closed out.pieces hosts
