use Rattle.station.proofs.Common.{◌≡◌, ℕ, nat_lt, length, List, [], ◌∷◌, ◌++◌, true, false, map, refl, sym, ◌∙◌, ap}
use Rattle.station.proofs.Common.{subst, arith, cond-true, cond-false, nat_tests, map-append, on_ok_weaker, ids_in}
use Rattle.station.proofs.Common.{without_ids, with_host, StandsForConnection, Shows, Out, Turn, changing, closing}
use Rattle.station.specs.declared.connection.Connection.{Connection as HeldConnection}
use Rattle.station.specs.Host.{has_place}
use Rattle.station.specs.Owners.{has_room}
use Rattle.station.proofs.JoinLemmas.{shows_joined, ids_closed}
use Rattle.station.proofs.Standing.{AllZip-length}
use Rattle.station.proofs.parts.Parts.join.Goals as goal

pub returns-then-not-has_room-clause-shows : goal.returns-then-not-has_room-clause-shows
returns-then-not-has_room-clause-shows c = λ turn shows.
    let id = c.args.id in
    let same = AllZip-length StandsForConnection c.args.self.now.connections.items turn.now.connections
    shows.holds.connections in
    let count : c.len.result ≡ length turn.now.connections =
    grind (arith, c.len.ensures, c.args.self.now.connections.ok) in
    let full : has_place turn.now ≡ false =
    sym (c.has_room.ensures ∙ ap (λ (n : ℕ). has_room n c.left_waiting.result) count
    ∙ ap (has_room (length turn.now.connections)) (c.left_waiting.ensures turn.now shows.holds))
    ∙ c.if-not-has_room.true in
    on_ok_weaker c.close.result (λ e. subst (λ (following : Turn). Shows c.args.self.now c.close.new.self following)
    (sym (cond-false (has_place turn.now) (changing (with_host id c.args.kind) turn)
    (closing id turn) full))
    (record {
      holds = shows.holds;
      gave = e ∙ ap (λ (out : Out). record out { closed = out.closed ++ id ∷ [] })
          shows.gave;
    })) c.close.ensures.closed

pub returns-then-not-has_room-clause-ids : goal.returns-then-not-has_room-clause-ids
returns-then-not-has_room-clause-ids c =
    let id = c.args.id in
    on_ok_weaker c.close.result (λ e none. ids_closed id (ids_in c.args.self.now) c.close.new.self.closed c.requires
    (ap (λ (out : Out). out.closed) e ∙ ap (λ (gone : List ℕ). gone ++ id ∷ []) none)) c.close.ensures.closed

pub returns-clause-shows : goal.returns-clause-shows
returns-clause-shows c = λ turn shows.
    let id = c.args.id in
    let parts = c.args.self.now in
    let same = AllZip-length StandsForConnection parts.connections.items turn.now.connections shows.holds.connections in
    let count : c.len.result ≡ length turn.now.connections =
    grind (arith, c.len.ensures, parts.connections.ok) in
    let room : has_place turn.now ≡ true =
    sym (c.has_room.ensures ∙ ap (λ (n : ℕ). has_room n c.left_waiting.result) count
    ∙ ap (has_room (length turn.now.connections)) (c.left_waiting.ensures turn.now shows.holds))
    ∙ c.if-not-has_room.false in
    let held : HeldConnection = record { id = id; raw = false; monitors = false; came = 0; reader = c.new_reader.result } in
    on_ok_weaker c.push.result (λ items.
    let joined = shows_joined parts c.args.out.now turn c.push.new.items.items held c.args.kind shows c.requires refl
    refl refl c.new_reader.ensures items in
    subst (λ (following : Turn). Shows (record parts { connections = c.push.new.items }) c.args.out.now following)
    (sym (cond-true (has_place turn.now) (changing (with_host id c.args.kind) turn)
    (closing id turn) room))
    (record {
      holds = record {
        parameters = shows.holds.parameters;
        digi = shows.holds.digi;
        paclen = shows.holds.paclen;
        connections = joined.0;
        ids = joined.1;
        registrations = shows.holds.registrations;
        links = shows.holds.links;
        channel = shows.holds.channel;
        askers = shows.holds.askers;
        owners = shows.holds.owners;
        heard = shows.holds.heard;
        dropped = shows.holds.dropped;
        ticks = shows.holds.ticks;
        asked = shows.holds.asked;
      };
      gave = shows.gave;
    })) c.push.ensures.items

pub returns-clause-ids : goal.returns-clause-ids
returns-clause-ids c =
    let id = c.args.id in
    let held : HeldConnection = record { id = id; raw = false; monitors = false; came = 0; reader = c.new_reader.result } in
    on_ok_weaker c.push.result (λ items none.
    ap (λ (xs : List HeldConnection). map (λ (connection : HeldConnection). connection.id) xs) items
    ∙ map-append (λ (connection : HeldConnection). connection.id) c.args.self.now.connections.items (held ∷ [])
    ∙ sym (ap (λ (gone : List ℕ). without_ids gone (ids_in c.args.self.now ++ id ∷ [])) none)) c.push.ensures.items
