-- Hosts that want to be told of frames.
use Rattle.station.proofs.Common.{◌≡◌, ◌≢◌, ℕ, ◌<◌, false, List, [], ◌∷◌, ◌++◌, length, get_or, drop, Option, Some}
use Rattle.station.proofs.Common.{arith, ap, ◌∙◌, sym, subst, All, AllZip, AllPairs, Kiss}
use Rattle.station.proofs.Common.{Connection, new_connection, HasOtherId, StandsForConnection, Parts, Shows, Out}
use Rattle.station.proofs.Common.{Turn, Sent}
use Rattle.std.specs.List.{remove}
use Rattle.std.specs.Prelude.{slice_index_or}
use Rattle.station.specs.declared.asker.Asker.{Asker}
use Rattle.station.specs.declared.connection.Connection.{Connection as HeldConnection}
use Rattle.station.specs.Askers.{connection_is_kiss, front_pieces, is_kiss, pieces_for, speaks_kiss}
use Rattle.station.specs.HeldConnections.{HasIdAt, kind_of}
use Rattle.station.specs.Ticks.{telling_sent}
use Rattle.station.proofs.ShowLemmas.{kind_read}
use Rattle.station.proofs.TakeLemmas.{connection_at, connection_none, place_is, stands_here}

-- no connection of the id is there
pub none_speaks :
    (id : ℕ) (held : List HeldConnection) (connections : List Connection)
    → AllZip StandsForConnection held connections → All (λ connection. connection.id ≢ id) held
    → speaks_kiss id connections ≡ false
none_speaks id held connections each none =
    ap connection_is_kiss (connection_none id held connections (new_connection 0 Kiss) each none)

-- the connection of a place has it
pub one_speaks :
    (id k : ℕ) (held : List HeldConnection) (connections : List Connection) (here : HeldConnection)
    → AllZip StandsForConnection held connections → AllPairs HasOtherId connections → HasIdAt id k held
    → here ≡ get_or held k here
    → is_kiss (kind_of here.reader) ≡ speaks_kiss id connections
one_speaks id k held connections here each ids at is =
    let d : Connection = new_connection 0 Kiss in
    let stands = stands_here held connections k here d each at.within is in
    ap is_kiss (kind_read here.reader (get_or connections k d).kind (get_or connections k d).stream stands.reader)
    ∙ sym (ap connection_is_kiss (connection_at id k connections d (place_is id k held connections each ids at)))

-- the front of a list that has one
pub front_of : {A : Type 0} (xs : List A) (front : A) → 0 < length xs → front ≡ slice_index_or xs 0 front
    → xs ≡ front ∷ remove xs 0
front_of [] front some is = absurd (omega (arith, some))
front_of (x ∷ xs) front some is = ap (λ y. y ∷ xs) (sym is)

-- a station without what stands beside the front frame
abbrev pub without_front : Turn → Turn
without_front turn = record turn { now = record turn.now { askers = drop 1 turn.now.askers; owners = drop 1 turn.now.owners } }

pub shows_removed :
    (parts new : Parts) (out : Out) (turn : Turn) (front : Option Asker) (others : List (Option Asker))
    → Shows parts out turn → parts.askers.items ≡ front ∷ others → new.askers.items ≡ others
    → new.owners.items ≡ drop 1 parts.owners.items
    → new ≡ record parts { askers = new.askers; owners = new.owners } → Shows new out (without_front turn)
shows_removed parts new out turn front others shows is left of same =
    let h = shows.holds in
    subst (λ (p : Parts). Shows p out (without_front turn)) (sym same) (record {
      holds = record {
        parameters = h.parameters;
        digi = h.digi;
        paclen = h.paclen;
        connections = h.connections;
        ids = h.ids;
        registrations = h.registrations;
        links = h.links;
        channel = h.channel;
        askers = left ∙ ap (drop 1) (sym is ∙ h.askers);
        owners = of ∙ ap (drop 1) h.owners;
        heard = h.heard;
        dropped = h.dropped;
        ticks = h.ticks;
        asked = h.asked;
      };
      gave = shows.gave;
    })

-- the front asker is told
pub shows_told :
    (parts new : Parts) (out after : Out) (turn : Turn) (sent : Option Sent) (named : Sent) (front : Option Asker)
    (others : List (Option Asker)) → Shows parts out turn → Shows new out (without_front turn) → sent ≡ Some named
    → parts.askers.items ≡ front ∷ others
    → after ≡ record out { pieces = out.pieces ++ pieces_for front turn.now.connections }
    → Shows new after (telling_sent sent turn)
shows_told parts new out after turn sent named front others shows removed some is told =
    let askers : front ∷ others ≡ turn.now.askers = sym is ∙ shows.holds.askers in
    subst (λ (s : Option Sent). Shows new after (telling_sent s turn)) (sym some) (record {
      holds = removed.holds;
      gave = told
          ∙ ap (λ (o : Out). record o { pieces = o.pieces ++ pieces_for front turn.now.connections }) shows.gave
          ∙ ap (λ (all : List (Option Asker)). record turn.out {
            pieces = turn.out.pieces ++ front_pieces all turn.now.connections;
          }) askers;
    })
