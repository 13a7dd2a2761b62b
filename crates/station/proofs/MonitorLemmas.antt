-- What is shown to hosts that monitor, connection by connection.
use Rattle.station.proofs.Common.{◌≡◌, ℕ, ◌+◌, ◌<◌, Bool, true, false, List, [], ◌∷◌, ◌++◌, length, map, filter, take}
use Rattle.station.proofs.Common.{cond, sym, ◌∙◌, ap, subst, get_or, append-nil, append_assoc, take_more, map-append}
use Rattle.station.proofs.Common.{filter-append, Parts, Connection, to_monitors, Shows, StandsForConnection, Out, Turn}
use Rattle.station.specs.declared.connection.Connection.{Connection as HeldConnection}
use Rattle.station.specs.declared.host_out.Piece.{Piece}
use Rattle.station.specs.Monitoring.{piece_for}

-- a turn with more pieces
abbrev pub with_pieces : List Piece → Turn → Turn
with_pieces pieces turn = record turn { out = record turn.out { pieces = turn.out.pieces ++ pieces } }

-- one connection more
to_monitors-more :
    (octets : List ℕ) (connections : List Connection) (k : ℕ) (d : Connection) → k < length connections
    → to_monitors octets (take (k + 1) connections)
    ≡ to_monitors octets (take k connections) ++ to_monitors octets (get_or connections k d ∷ [])
to_monitors-more octets connections k d within =
    let keeps : Connection → Bool = λ connection. connection.monitors in
    let front = take k connections in
    let one : List Connection = get_or connections k d ∷ [] in
    ap (to_monitors octets) (take_more connections k d within)
    ∙ ap (map (piece_for octets)) (filter-append keeps front one)
    ∙ map-append (piece_for octets) (filter keeps front) (filter keeps one)

-- a connection that monitors is shown the octets
one_monitors :
    (octets : List ℕ) (connection : Connection) → connection.monitors ≡ true
    → to_monitors octets (connection ∷ []) ≡ piece_for octets connection ∷ []
one_monitors octets connection is = ap (λ b. map (piece_for octets) (cond b (connection ∷ []) [])) is

none_monitors :
    (octets : List ℕ) (connection : Connection) → connection.monitors ≡ false
    → to_monitors octets (connection ∷ []) ≡ []
none_monitors octets connection is = ap (λ b. map (piece_for octets) (cond b (connection ∷ []) [])) is

-- the connection of a place is shown them
pub shown_more :
    (parts : Parts) (old new : Out) (turn : Turn) (octets shown : List ℕ) (k : ℕ) (d : Connection)
    (held : HeldConnection)
    → Shows parts old (with_pieces (to_monitors octets (take k turn.now.connections)) turn)
    → k < length turn.now.connections
    → StandsForConnection held (get_or turn.now.connections k d) → held.monitors ≡ true → shown ≡ octets
    → new ≡ record old { pieces = old.pieces ++ (record { id = held.id; octets = shown }) ∷ [] }
    → Shows parts new (with_pieces (to_monitors octets (take (k + 1) turn.now.connections)) turn)
shown_more parts old new turn octets shown k d held shows within stands monitors same is =
    let here : Connection = get_or turn.now.connections k d in
    let front = to_monitors octets (take k turn.now.connections) in
    let piece : List ℕ → ℕ → Piece = λ spelled id. record { id = id; octets = spelled } in
    let more : to_monitors octets (take (k + 1) turn.now.connections) ≡ front ++ piece octets here.id ∷ [] =
    to_monitors-more octets turn.now.connections k d within
    ∙ ap (λ one. front ++ one) (one_monitors octets here (sym stands.monitors ∙ monitors)) in
    record {
      holds = shows.holds;
      gave = is
          ∙ ap (λ (out : Out). record out { pieces = out.pieces ++ piece shown held.id ∷ [] }) shows.gave
          ∙ ap (λ (pieces : List Piece). record turn.out { pieces = pieces })
          (ap (λ (spelled : List ℕ). (turn.out.pieces ++ front) ++ piece spelled held.id ∷ []) same
          ∙ ap (λ (id : ℕ). (turn.out.pieces ++ front) ++ piece octets id ∷ []) stands.id
          ∙ append_assoc turn.out.pieces front (piece octets here.id ∷ [])
          ∙ ap (λ (pieces : List Piece). turn.out.pieces ++ pieces) (sym more));
    }

-- or it does not monitor, and is shown nothing
pub passed_more :
    (parts : Parts) (out : Out) (turn : Turn) (octets : List ℕ) (k : ℕ) (d : Connection) (held : HeldConnection)
    → Shows parts out (with_pieces (to_monitors octets (take k turn.now.connections)) turn)
    → k < length turn.now.connections
    → StandsForConnection held (get_or turn.now.connections k d) → held.monitors ≡ false
    → Shows parts out (with_pieces (to_monitors octets (take (k + 1) turn.now.connections)) turn)
passed_more parts out turn octets k d held shows within stands monitors =
    let here : Connection = get_or turn.now.connections k d in
    let front = to_monitors octets (take k turn.now.connections) in
    let more : to_monitors octets (take (k + 1) turn.now.connections) ≡ front =
    to_monitors-more octets turn.now.connections k d within
    ∙ ap (λ one. front ++ one) (none_monitors octets here (sym stands.monitors ∙ monitors)) ∙ append-nil front in
    subst (λ pieces. Shows parts out (with_pieces pieces turn)) (sym more) shows

-- nothing is shown
pub shows_nothing :
    (parts : Parts) (out : Out) (turn : Turn) → Shows parts out turn
    → Shows parts out (with_pieces [] turn)
shows_nothing parts out turn shows =
    record {
      holds = shows.holds;
      gave = shows.gave
          ∙ ap (λ (pieces : List Piece). record turn.out { pieces = pieces }) (sym (append-nil turn.out.pieces));
    }
