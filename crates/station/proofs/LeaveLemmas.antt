-- A connection that leaves.
use Rattle.station.proofs.Common.{◌≡◌, ℕ, ◌<◌, ◌==◌, not, Bool, true, false, List, [], ◌∷◌, map, filter, cond, Option, Some}
use Rattle.station.proofs.Common.{None, refl, AllZip, range_with_len, sym, ◌∙◌, ap, subst, set, cond-true, cond-false}
use Rattle.station.proofs.Common.{false≢true, length-set, Disconnect, OwnedLink, Parts, HeldLinks, giving_up}
use Rattle.station.proofs.Common.{without_owner, event_at, with_links, Link, link_at, most_links, with_link, is_number}
use Rattle.station.proofs.Common.{StandsForConnection, HasOtherId, StandsForPlace, StandsForLink, StandsForLinks, Shows}
use Rattle.station.proofs.Common.{IsSetAt, Out, Turn, in_order, changing}
use Rattle.std.proofs.lemmas.List.Kept.{AllPairs-filter}
use Rattle.channel_access.specs.StandsFor.{StandsFor as StandsForChannel}
use Rattle.station.specs.declared.connection.Connection.{Connection as HeldConnection}
use Rattle.station.specs.Askers.{without_askers}
use Rattle.station.specs.Connections.{without_connection}
use Rattle.station.specs.Leaving.{without_host, giving_up_all, giving_up_link}
use Rattle.station.specs.Registrations.{without_registrations}
use Rattle.station.proofs.EventLemmas.{AllZip-set, freed-kept, some-kept}

-- the links of all keys
pub all_given_up : (id n : ℕ) (turn : Turn) → n ≡ most_links
    → in_order (map (giving_up id) (range_with_len 0 n)) turn ≡ giving_up_all id turn
unfolding giving_up_all
all_given_up id n turn all = ap (λ k. in_order (map (giving_up id) (range_with_len 0 k)) turn) all

-- a station in which one link was written
pub shows_set : (parts : Parts) (out : Out) (turn : Turn) (links : HeldLinks) (key : ℕ) (link next : Link)
    → Shows parts out turn → link_at key turn.now.links ≡ Some link → IsSetAt key parts.links links next
    → Shows (record parts { links = links }) out (changing (with_links (with_link key next)) turn)
shows_set parts out turn links key link next shows at is =
    let h = shows.holds in
    record {
      holds = record {
        parameters = h.parameters;
        digi = h.digi;
        paclen = h.paclen;
        connections = h.connections;
        ids = h.ids;
        registrations = h.registrations;
        links = record {
          places = subst (λ xs. AllZip StandsForPlace xs (set turn.now.links.places key (Some next))) (sym is.places)
              (AllZip-set StandsForPlace parts.links.places turn.now.links.places key (Some is.held) (Some next)
              h.links.places is.stands);
          size = length-set turn.now.links.places key (Some next) ∙ h.links.size;
          freed = freed-kept parts.links links turn.now.links key link next turn.now.links.freed at is.next
              h.links.freed;
          least = λ none lower less. some-kept turn.now.links.places key lower link next at
              (h.links.least none lower (subst (λ (k : ℕ). lower < k) is.next less));
        };
        channel = h.channel;
        askers = h.askers;
        owners = h.owners;
        heard = h.heard;
        dropped = h.dropped;
        ticks = h.ticks;
        asked = h.asked;
      };
      gave = shows.gave;
    }

-- no link, or another's, is not given up
pub none_given_up : (parts : Parts) (out : Out) (turn : Turn) (id key : ℕ) (place : Option Link)
    → StandsForPlace None place → Shows parts out turn → Shows parts out (giving_up_link id key place turn)
none_given_up parts out turn id key None h shows = shows
none_given_up parts out turn id key (Some link) h shows = absurd h

pub other_kept : (parts : Parts) (out : Out) (turn : Turn) (id key : ℕ) (held : OwnedLink) (place : Option Link)
    → StandsForPlace (Some held) place → is_number id held.owner ≡ false → Shows parts out turn
    → Shows parts out (giving_up_link id key place turn)
other_kept parts out turn id key held None h other shows = absurd h
other_kept parts out turn id key held (Some link) h other shows =
    subst (λ (following : Turn). Shows parts out following)
    (sym (cond-false (is_number id link.owner) (event_at key Disconnect
    (changing (with_links (with_link key (without_owner link))) turn)) turn (ap (is_number id) (sym h.owner)
    ∙ other))) shows

-- the connection's own is
pub own_given_up : (P : Turn → Type 0) (turn : Turn) (id key : ℕ) (held : OwnedLink) (place : Option Link)
    → StandsForPlace (Some held) place → is_number id held.owner ≡ true
    → ((link : Link) → StandsForLink held link → place ≡ Some link
    → P (event_at key Disconnect (changing (with_links (with_link key (without_owner link))) turn)))
    → P (giving_up_link id key place turn)
own_given_up P turn id key held None h own then = absurd h
own_given_up P turn id key held (Some link) h own then =
    subst P (sym (cond-true (is_number id link.owner)
    (event_at key Disconnect (changing (with_links (with_link key (without_owner link))) turn)) turn
    (ap (is_number id) (sym h.owner) ∙ own))) (then link h refl)

-- lists whose items pass alike still stand for each other if they are filtered
AllZip-filter : {A B : Type 0} (R : A → B → Type 0) (p : A → Bool) (q : B → Bool) (alike : (a : A) (b : B) → R a b
    → p a ≡ q b) (xs : List A) (ys : List B) → AllZip R xs ys → AllZip R (filter p xs) (filter q ys)
AllZip-filter R p q alike [] [] h = tt
AllZip-filter R p q alike [] (y ∷ ys) h = absurd h
AllZip-filter R p q alike (x ∷ xs) [] h = absurd h
AllZip-filter {A} {B} R p q alike (x ∷ xs) (y ∷ ys) h =
    both (p x) (q y) (alike x y h.0) (AllZip-filter R p q alike xs ys h.1)
  where
    both : (a b : Bool) → a ≡ b → AllZip R (filter p xs) (filter q ys)
        → AllZip R (cond a (x ∷ filter p xs) (filter p xs)) (cond b (y ∷ filter q ys) (filter q ys))
    both true true e rest = (h.0, rest)
    both true false e rest = absurd (false≢true (sym e))
    both false true e rest = absurd (false≢true e)
    both false false e rest = rest

-- the ids of the connections that stay
pub ids_filtered : (id : ℕ) (items : List HeldConnection)
    → map (λ (connection : HeldConnection). connection.id) (filter (λ connection. not (connection.id == id)) items)
    ≡ filter (λ other. not (other == id)) (map (λ (connection : HeldConnection). connection.id) items)
ids_filtered id [] = refl
ids_filtered id (x ∷ xs) =
    either (not (x.id == id)) (filter (λ connection. not (connection.id == id)) xs)
    ∙ ap (λ rest. cond (not (x.id == id)) (x.id ∷ rest) rest) (ids_filtered id xs)
  where
    either : (stays : Bool) (rest : List HeldConnection)
        → map (λ (connection : HeldConnection). connection.id) (cond stays (x ∷ rest) rest)
        ≡ cond stays (x.id ∷ map (λ (connection : HeldConnection). connection.id) rest)
        (map (λ (connection : HeldConnection). connection.id) rest)
    either true rest = refl
    either false rest = refl

-- a station without a connection
pub shows_forgotten : (parts new : Parts) (out : Out) (turn : Turn) (id : ℕ) → Shows parts out turn
    → new.connections.items ≡ filter (λ connection. not (connection.id == id)) parts.connections.items
    → new.registrations.items ≡ without_registrations id parts.registrations.items
    → new.askers.items ≡ without_askers id parts.askers.items
    → new.parameters ≡ parts.parameters → new.digi ≡ parts.digi → new.links ≡ parts.links → new.channel ≡ parts.channel
    → new.owners ≡ parts.owners → new.heard ≡ parts.heard → new.dropped ≡ parts.dropped → new.ticks ≡ parts.ticks → new.asked ≡ parts.asked
    → new.paclen ≡ parts.paclen → Shows new out (changing (without_host id) turn)
shows_forgotten parts new out turn id shows kept left told parameters digi links channel owners heard dropped ticks asked
    paclen =
    let h = shows.holds in
    record {
      holds = record {
        parameters = parameters ∙ h.parameters;
        digi = digi ∙ h.digi;
        paclen = paclen ∙ h.paclen;
        connections = subst (λ xs. AllZip StandsForConnection xs (without_connection id turn.now.connections))
            (sym kept)
            (AllZip-filter StandsForConnection (λ connection. not (connection.id == id))
            (λ connection. not (connection.id == id)) (λ a b stands. ap (λ n. not (n == id)) stands.id)
            parts.connections.items turn.now.connections h.connections);
        ids = AllPairs-filter HasOtherId (λ connection. not (connection.id == id)) turn.now.connections h.ids;
        registrations = left ∙ ap (without_registrations id) h.registrations;
        links = subst (λ (held : HeldLinks). StandsForLinks held turn.now.links) (sym links) h.links;
        channel = subst (λ held. StandsForChannel held turn.now.channel) (sym channel) h.channel;
        askers = told ∙ ap (without_askers id) h.askers;
        owners = ap (λ held. held.items) owners ∙ h.owners;
        heard = ap (λ held. held.items) heard ∙ h.heard;
        dropped = dropped ∙ h.dropped;
        ticks = ticks ∙ h.ticks;
        asked = asked ∙ h.asked;
      };
      gave = shows.gave;
    }
