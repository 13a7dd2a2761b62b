-- A connection that is changed, and the station around it.
use Rattle.station.proofs.Common.{◌≡◌, ◌≢◌, ℕ, zero, suc, ◌<◌, ◌==◌, Bool, true, false, List, [], ◌∷◌, length, map}
use Rattle.station.proofs.Common.{cond, not, All, AllPairs, Some, None, Result, Ok, Err, OnOk, refl, AllZip, sym, ◌∙◌}
use Rattle.station.proofs.Common.{ap, subst, arith, get_or, set, inl, inr, cond-true, cond-false, cases_lt, eq-eqb}
use Rattle.station.proofs.Common.{eqb-true, Parts, Connection, connection_of, turned_raw, turned_monitor, HeldLinks}
use Rattle.station.proofs.Common.{StandsForConnection, StandsForLinks, HasOtherId, Shows, StationState, Out, Turn}
use Rattle.station.proofs.Common.{changing}
use Rattle.std.proofs.lemmas.Bool.{false_from_ne_true}
use Rattle.station.specs.declared.connection.Connection.{Connection as HeldConnection}
use Rattle.station.specs.Connections.{with_connection}
use Rattle.channel_access.specs.StandsFor.{StandsFor as StandsForChannel}
use Rattle.station.specs.HeldConnections.{HasIdAt}
use Rattle.station.proofs.Searches.{find_at, find_none}
use Rattle.station.proofs.Standing.{AllZip-at, AllZip-length}

-- is it the connection of an id?
abbrev pub has_id : ℕ → Connection → Bool
has_id id connection = connection.id == id

-- the one place of an id
pub record IsPlace (id k : ℕ) (connections : List Connection) : Type 0 where
  pub within : k < length connections
  pub here : (d : Connection) → has_id id (get_or connections k d) ≡ true
  pub others : (j : ℕ) (d : Connection) → j < length connections → j ≢ k → has_id id (get_or connections j d) ≡ false

-- all others stay
zip_same : (id : ℕ) (change : Connection → Connection) (held : List HeldConnection) (connections : List Connection)
    → AllZip StandsForConnection held connections → ((j : ℕ) (d : Connection) → j < length connections
    → has_id id (get_or connections j d) ≡ false) → AllZip StandsForConnection held
    (with_connection id change connections)
zip_same id change [] [] h others = tt
zip_same id change [] (y ∷ ys) h others = absurd h
zip_same id change (x ∷ xs) [] h others = absurd h
zip_same id change (x ∷ xs) (y ∷ ys) h others = (
  subst (λ (c : Connection). StandsForConnection x c)
      (sym (cond-false (y.id == id) (change y) y (others 0 y (omega arith)))) h.0,
  zip_same id change xs ys h.1 (λ j d less. others (suc j) d (omega (arith, less))),
)

-- the connection of the place is changed alike on both sides
pub zip_changed : (id k : ℕ) (change : Connection → Connection) (new : HeldConnection) (held : List HeldConnection)
    (connections : List Connection) (d : Connection) → AllZip StandsForConnection held connections
    → IsPlace id k connections
    → StandsForConnection new (change (get_or connections k d))
    → AllZip StandsForConnection (set held k new) (with_connection id change connections)
zip_changed id k change new [] [] d h at stands = tt
zip_changed id k change new [] (y ∷ ys) d h at stands = absurd h
zip_changed id k change new (x ∷ xs) [] d h at stands = absurd h
zip_changed id zero change new (x ∷ xs) (y ∷ ys) d h at stands = (
  subst (λ (c : Connection). StandsForConnection new c) (sym (cond-true (y.id == id) (change y) y (at.here y))) stands,
  zip_same id change xs ys h.1 (λ j e less. at.others (suc j) e (omega (arith, less))
      (λ same. absurd (omega (arith, same)))),
)
zip_changed id (suc k) change new (x ∷ xs) (y ∷ ys) d h at stands = (
  subst (λ (c : Connection). StandsForConnection x c)
      (sym (cond-false (y.id == id) (change y) y (at.others 0 y (omega arith) (λ same. absurd (omega (arith, same))))))
      h.0,
  zip_changed id k change new xs ys d h.1
      (record {
        within = (let less = at.within in omega arith);
        here = λ e. at.here e;
        others = λ j e less other. at.others (suc j) e (omega (arith, less)) (λ same. other (omega (arith, same)));
      })
      stands,
)

-- what is held at a place stands for the connection there
pub stands_here : (held : List HeldConnection) (connections : List Connection) (k : ℕ) (here : HeldConnection)
    (d : Connection) → AllZip StandsForConnection held connections → k < length held → here ≡ get_or held k here
    → StandsForConnection here (get_or connections k d)
stands_here held connections k here d h within is =
    subst (λ (item : HeldConnection). StandsForConnection item (get_or connections k d)) (sym is)
    (AllZip-at StandsForConnection held connections k here d h within)

-- and still does when it is turned
pub stands_turned : (here new : HeldConnection) (connection : Connection) → StandsForConnection here connection
    → new ≡ record here { raw = not here.raw }
    → StandsForConnection new (turned_raw connection)
stands_turned here new connection h is =
    subst (λ (item : HeldConnection). StandsForConnection item (turned_raw connection)) (sym is)
    (record { id = h.id; came = h.came; raw = ap not h.raw; monitors = h.monitors; reader = h.reader })

pub stands_monitoring : (here new : HeldConnection) (connection : Connection) → StandsForConnection here connection
    → new ≡ record here { monitors = not here.monitors }
    → StandsForConnection new (turned_monitor connection)
stands_monitoring here new connection h is =
    subst (λ (item : HeldConnection). StandsForConnection item (turned_monitor connection)) (sym is)
    (record { id = h.id; came = h.came; raw = h.raw; monitors = ap not h.monitors; reader = h.reader })

-- a connection keeps its id
abbrev pub KeepsId : (Connection → Connection) → Type 0
KeepsId change = (connection : Connection) → (change connection).id ≡ connection.id

kept : (id : ℕ) (change : Connection → Connection) → KeepsId change → (connection : Connection) (own : Bool)
    → (cond own (change connection) connection).id ≡ connection.id
kept id change keeps connection true = keeps connection
kept id change keeps connection false = refl

-- so ids stay apart
pub ids_apart : (id : ℕ) (change : Connection → Connection) → KeepsId change → (connections : List Connection)
    → AllPairs HasOtherId connections → AllPairs HasOtherId (with_connection id change connections)
ids_apart id change keeps connections apart i j d less within =
    let f : Connection → Connection = λ connection. cond (connection.id == id) (change connection) connection in
    let inside : j < length connections = (let size : length (map f connections) ≡ length connections =
    map_length f connections in omega (arith, within)) in
    let own : (n : ℕ) → n < length connections → (get_or (map f connections) n d).id ≡ (get_or connections n d).id =
    λ n below.
    ap (λ (c : Connection). c.id) (at_map f connections n d below)
    ∙ kept id change keeps (get_or connections n d) ((get_or connections n d).id == id) in
    λ same. apart i j d less inside (sym (own i (omega arith)) ∙ same ∙ own j inside)
  where
    map_length : (f : Connection → Connection) (xs : List Connection) → length (map f xs) ≡ length xs
    map_length f [] = refl
    map_length f (x ∷ xs) = ap suc (map_length f xs)

    at_map : (f : Connection → Connection) (xs : List Connection) (n : ℕ) (d : Connection) → n < length xs
        → get_or (map f xs) n d ≡ f (get_or xs n d)
    at_map f [] n d below = absurd (omega (arith, below))
    at_map f (x ∷ xs) zero d below = refl
    at_map f (x ∷ xs) (suc n) d below = at_map f xs n d (omega (arith, below))

-- the place that has the id on the one side has it on the other, and no other place has
pub place_is : (id k : ℕ) (held : List HeldConnection) (connections : List Connection)
    → AllZip StandsForConnection held connections → AllPairs HasOtherId connections → HasIdAt id k held
    → IsPlace id k connections
place_is id k [] connections h apart at = absurd (let less = at.within in omega arith)
place_is id k (x ∷ xs) connections h apart at =
    let held = x ∷ xs in
    let inside : k < length connections = (let less = at.within in
    omega (arith, AllZip-length StandsForConnection held connections h)) in
    let same : (d : Connection) → (get_or connections k d).id ≡ id = λ d.
    sym (AllZip-at StandsForConnection held connections k x d h at.within).id ∙ at.same x in
    record {
      within = inside;
      here = λ d. eq-eqb (get_or connections k d).id id (same d);
      others = λ j d less other. elim (cases_lt j k) [
        | inl earlier ↦ false_from_ne_true ((get_or connections j d).id == id)
            (λ e. apart j k d earlier inside (eqb-true (get_or connections j d).id id e ∙ sym (same d)))
        | inr from ↦ (let later : k < j = omega arith in
            false_from_ne_true ((get_or connections j d).id == id)
            (λ e. apart k j d later less (same d ∙ sym (eqb-true (get_or connections j d).id id e))))
      ];
    }

-- it is the connection of the id
pub connection_at : (id k : ℕ) (connections : List Connection) (d : Connection) → IsPlace id k connections
    → connection_of id connections ≡ Some (get_or connections k d)
connection_at id k connections d at =
    find_at (has_id id) connections k d at.within (λ j less. at.others j d (let within = at.within in omega arith)
    (λ same. absurd (omega arith))) (at.here d)

none_zip : (id : ℕ) (held : List HeldConnection) (connections : List Connection)
    → AllZip StandsForConnection held connections → All (λ connection. connection.id ≢ id) held
    → (j : ℕ) (d : Connection) → j < length connections → has_id id (get_or connections j d) ≡ false
none_zip id [] [] h none j d less = absurd (omega (arith, less))
none_zip id [] (y ∷ ys) h none j d less = absurd h
none_zip id (x ∷ xs) [] h none j d less = absurd h
none_zip id (x ∷ xs) (y ∷ ys) h none zero d less = false_from_ne_true (y.id == id)
    (λ e. none 0 x (omega arith) (h.0.id ∙ eqb-true y.id id e))
none_zip id (x ∷ xs) (y ∷ ys) h none (suc j) d less =
    none_zip id xs ys h.1 (λ n e below. none (suc n) e (omega (arith, below))) j d (omega (arith, less))

-- no connection has the id
pub connection_none : (id : ℕ) (held : List HeldConnection) (connections : List Connection) (d : Connection)
    → AllZip StandsForConnection held connections → All (λ connection. connection.id ≢ id) held
    → connection_of id connections ≡ None
connection_none id held connections d h none = find_none (has_id id) connections d
    (λ j less. none_zip id held connections h none j d less)

pub none_changed : (id : ℕ) (change : Connection → Connection) (held : List HeldConnection)
    (connections : List Connection) → AllZip StandsForConnection held connections
    → All (λ connection. connection.id ≢ id) held → AllZip StandsForConnection held
    (with_connection id change connections)
none_changed id change held connections h none = zip_same id change held connections h
    (none_zip id held connections h none)

-- the ids of the connections stay
pub ids_set : (items : List HeldConnection) (k : ℕ) (new here : HeldConnection) → new.id ≡ here.id
    → here ≡ get_or items k here → map (λ (connection : HeldConnection). connection.id) (set items k new)
    ≡ map (λ (connection : HeldConnection). connection.id) items
ids_set [] k new here same is = refl
ids_set (x ∷ xs) zero new here same is = ap (λ (n : ℕ). n ∷ map (λ (connection : HeldConnection). connection.id) xs)
    (same ∙ ap (λ (item : HeldConnection). item.id) is)
ids_set (x ∷ xs) (suc k) new here same is = ap (λ (ns : List ℕ). x.id ∷ ns) (ids_set xs k new here same is)

abbrev pub with_connections : (List Connection → List Connection) → StationState → StationState
with_connections change s = record s { connections = change s.connections }

-- a station in which connections are changed
pub shows_connections : (parts new : Parts) (out : Out) (turn : Turn) (id : ℕ) (change : Connection → Connection)
    → Shows parts out turn → KeepsId change → AllZip StandsForConnection new.connections.items
    (with_connection id change turn.now.connections)
    → new.parameters ≡ parts.parameters → new.digi ≡ parts.digi → new.registrations ≡ parts.registrations
    → new.links ≡ parts.links → new.channel ≡ parts.channel → new.askers ≡ parts.askers → new.owners ≡ parts.owners
    → new.heard ≡ parts.heard → new.dropped ≡ parts.dropped → new.ticks ≡ parts.ticks
    → new.asked ≡ parts.asked → new.paclen ≡ parts.paclen
    → Shows new out (changing (with_connections (with_connection id change)) turn)
shows_connections parts new out turn id change shows keeps each parameters digi registrations links channel askers
    owners heard dropped ticks asked paclen =
    let h = shows.holds in
    record {
      holds = record {
        parameters = parameters ∙ h.parameters;
        digi = digi ∙ h.digi;
        paclen = paclen ∙ h.paclen;
        connections = each;
        ids = ids_apart id change keeps turn.now.connections h.ids;
        registrations = ap (λ held. held.items) registrations ∙ h.registrations;
        links = subst (λ (held : HeldLinks). StandsForLinks held turn.now.links) (sym links) h.links;
        channel = subst (λ held. StandsForChannel held turn.now.channel) (sym channel) h.channel;
        askers = ap (λ held. held.items) askers ∙ h.askers;
        owners = ap (λ held. held.items) owners ∙ h.owners;
        heard = ap (λ held. held.items) heard ∙ h.heard;
        dropped = dropped ∙ h.dropped;
        ticks = ticks ∙ h.ticks;
        asked = asked ∙ h.asked;
      };
      gave = shows.gave;
    }

-- what is so whatever comes
pub on_any : {T E P : Type 0} (r : Result T E) → P → OnOk r P
on_any (Ok x) h = h
on_any (Err e) h = tt
