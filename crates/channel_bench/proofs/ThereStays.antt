-- The connection of a host program of the bench: if the program is there, its station has the connection, which speaks
-- for it.
use Rattle.channel_bench.proofs.Common.{◌≡◌, ℕ, ◌==◌, ◌||◌, not, Bool, true, false, List, [], ◌∷◌, ◌++◌}
use Rattle.channel_bench.proofs.Common.{cond, Option, Some, is_some, refl, sym, ap, ◌∙◌, subst, arith, inl, inr, filter}
use Rattle.channel_bench.proofs.Common.{list_any, or_cases, call_field, spelling, AgwMessage, End, Joined, PortKind}
use Rattle.channel_bench.proofs.Common.{Kiss, Agw, connect_kind, data_kind, disconnect_kind, register_kind, IsAnswered}
use Rattle.channel_bench.proofs.Common.{Connection, connection_of, has_place, new_connection, with_connection}
use Rattle.channel_bench.proofs.Common.{joining, taking, with_host, with_octets, without_ids, no_call, StationState}
use Rattle.channel_bench.proofs.Common.{Turn, begin, changing, closing, program_id, there_after, kiss_id, call_at}
use Rattle.channel_bench.proofs.Common.{full_duplex_octets, request, request_between, Input, IsTurn, FromHost, not_both}
use Rattle.std.proofs.lemmas.List.Folds.{list_any-append}
use Rattle.channel_bench.proofs.CoreRun.{Occurs, Usual, input_of}
use Rattle.channel_bench.proofs.CoreRun.Usual.{connects, disconnects, gives, hears, joins_kiss, joins_program}
use Rattle.channel_bench.proofs.CoreRun.Usual.{registers, sets_full, ticks}
use Rattle.channel_bench.proofs.HostsStay.{HasHosts, IsOfProgram, IsSaid, IsSet, none_passes, said_by, set_by}
use Rattle.channel_bench.proofs.HostsStay.IsSaid.{said, unheard}
use Rattle.channel_bench.proofs.HostsStay.IsSet.{full, unheard as alone}
use Rattle.std.specs.List.{AllByRecursion as Each}
use Rattle.station.specs.CallFields.{call_in}
use Rattle.channel_bench.proofs.ProgramsAsk.{between_written, registers_written}
use Rattle.channel_bench.proofs.TurnWalks.{KeptByTurns, connect_kept, data_kept, disconnect_kept, heard_kept}
use Rattle.channel_bench.proofs.TurnWalks.{register_kept, ticks_kept}

-- the station has the connection
abbrev pub HasProgram : StationState → Type 0
HasProgram s = is_some (connection_of program_id s.connections) ≡ true

-- the program is there
abbrev pub is_there : List ℕ → Bool
is_there there = list_any (λ other. other == program_id) there

-- ---- what acts keep

record SameConnections (t u : Turn) : Type 0 where
  connections : u.now.connections ≡ t.now.connections
  closed : u.out.closed ≡ t.out.closed

same_connections : KeptByTurns SameConnections
same_connections = record {
  acts = record {
    same = λ t. record { connections = refl; closed = refl };
    on = λ t u v h k. record { connections = k.connections ∙ h.connections; closed = k.closed ∙ h.closed };
    tells = λ t pieces. record { connections = refl; closed = refl };
    links = λ change t. record { connections = refl; closed = refl };
    enters = λ key octets t. record { connections = refl; closed = refl };
    drops = λ t. record { connections = refl; closed = refl };
    asks = λ key t. record { connections = refl; closed = refl };
  };
  registers = λ call t. record { connections = refl; closed = refl };
  told = λ path ours t. record { connections = refl; closed = refl };
}

-- what a step leaves of the connection of the program
record Stays (s : StationState) (after : Turn) : Type 0 where
  has : HasProgram s → HasProgram after.now
  closed : after.out.closed ≡ []

stays_same : (s : StationState) (after : Turn) → SameConnections (begin s) after → Stays s after
stays_same s after h = record {
  has = λ has. ap (λ cs. is_some (connection_of program_id cs)) h.connections ∙ has;
  closed = h.closed;
}

-- octets more of a connection
has_with :
    (id made : ℕ) (octets : List ℕ) (connections : List Connection)
    → is_some (connection_of program_id (with_connection id (with_octets made octets) connections))
    ≡ is_some (connection_of program_id connections)
has_with id made octets [] = refl
has_with id made octets (c ∷ connections) = go (c.id == id) (has_with id made octets connections)
  where
    rest : Option Connection
    rest = connection_of program_id (with_connection id (with_octets made octets) connections)

    inner : (b : Bool) (x : Connection) → is_some rest ≡ is_some (connection_of program_id connections)
        → is_some (cond b (Some x) rest) ≡ is_some (cond b (Some c) (connection_of program_id connections))
    inner true x same = refl
    inner false x same = same

    go : (b : Bool) → is_some rest ≡ is_some (connection_of program_id connections)
        → is_some (cond ((cond b (with_octets made octets c) c).id == program_id) (Some (cond b (with_octets made octets c) c))
        rest)
        ≡ is_some (cond (c.id == program_id) (Some c) (connection_of program_id connections))
    go true same = inner (c.id == program_id) (with_octets made octets c) same
    go false same = inner (c.id == program_id) c same

stays_took :
    (id : ℕ) (octets : List ℕ) (s : StationState) (after : Turn) → SameConnections (taking id octets (begin s)) after
    → Stays s after
stays_took id octets s after h = record {
  has = λ has. ap (λ cs. is_some (connection_of program_id cs)) h.connections ∙ has_with id s.ticks octets s.connections ∙ has;
  closed = h.closed;
}

stays_said :
    (message : AgwMessage) (s : StationState) (after : Turn)
    → ((t : Turn) → t.now.registrations ≡ s.registrations → IsAnswered program_id message t after
    → SameConnections t after) → IsSaid message (begin s) after
    → Stays s after
stays_said message s after keeps (unheard same) =
    stays_same s after (subst (SameConnections (begin s)) (sym same) (record { connections = refl; closed = refl }))
stays_said message s after keeps (said answered) =
    stays_took program_id (spelling message) s after (keeps (taking program_id (spelling message) (begin s)) refl answered)

stays_set : (s : StationState) (after : Turn) → IsSet (begin s) after → Stays s after
stays_set s after (alone same) =
    stays_same s after (subst (SameConnections (begin s)) (sym same) (record { connections = refl; closed = refl }))
stays_set s after (full same) =
    stays_took kiss_id full_duplex_octets s after
    (subst (SameConnections (taking kiss_id full_duplex_octets (begin s))) (sym same)
    (record { connections = refl; closed = refl }))

-- ---- who is there

abbrev Grows : List ℕ → StationState → List ℕ → StationState → Type 0
Grows there s later after = (is_there there ≡ true → HasProgram s) → is_there later ≡ true → HasProgram after

stays_there : (s : StationState) (after : Turn) (there later : List ℕ) → Stays s after
    → (after.out.closed ≡ [] → later ≡ there)
    → Grows there s later after.now
stays_there s after there later h same before is =
    h.has (before (sym (ap is_there (same h.closed)) ∙ is))

has_more : (connections : List Connection) (c : Connection) → is_some (connection_of program_id connections) ≡ true
    → is_some (connection_of program_id (connections ++ c ∷ [])) ≡ true
has_more [] c has = absurd (cc)
has_more (first ∷ connections) c has =
    go (first.id == program_id) has (λ later. has_more connections c later)
  where
    go : (b : Bool) → is_some (cond b (Some first) (connection_of program_id connections)) ≡ true
        → (is_some (connection_of program_id connections) ≡ true
        → is_some (connection_of program_id (connections ++ c ∷ [])) ≡ true)
        → is_some (cond b (Some first) (connection_of program_id (connections ++ c ∷ []))) ≡ true
    go true h rest = refl
    go false h rest = rest h

has_last : (connections : List Connection) (kind : PortKind)
    → is_some (connection_of program_id (connections ++ new_connection program_id kind ∷ [])) ≡ true
has_last [] kind = refl
has_last (first ∷ connections) kind = go (first.id == program_id) (has_last connections kind)
  where
    go : (b : Bool) → is_some (connection_of program_id (connections ++ new_connection program_id kind ∷ [])) ≡ true
        → is_some (cond b (Some first) (connection_of program_id (connections ++ new_connection program_id kind ∷ [])))
        ≡ true
    go true h = refl
    go false h = h

-- those that are left are among those that were there
left_there : (id : ℕ) (there : List ℕ) → is_there (filter (λ x. not (x == id)) there) ≡ true → is_there there ≡ true
left_there id [] is = is
left_there id (x ∷ there) is = go (x == id) is (λ later. left_there id there later)
  where
    left : List ℕ
    left = filter (λ y. not (y == id)) there

    one : (d : Bool) → (d || is_there left) ≡ true → (is_there left ≡ true → is_there there ≡ true)
        → (d || is_there there) ≡ true
    one true h rest = refl
    one false h rest = rest h

    other : (d : Bool) → is_there there ≡ true → (d || is_there there) ≡ true
    other true h = refl
    other false h = h

    go : (b : Bool) → is_there (cond (not b) (x ∷ left) left) ≡ true → (is_there left ≡ true → is_there there ≡ true)
        → ((x == program_id) || is_there there) ≡ true
    go true h rest = other (x == program_id) (rest h)
    go false h rest = one (x == program_id) h rest

none_left : (there : List ℕ) → is_there (filter (λ x. not (x == program_id)) there) ≡ false
none_left [] = refl
none_left (x ∷ there) = go (x == program_id) refl (none_left there)
  where
    go : (b : Bool) → (x == program_id) ≡ b → is_there (filter (λ y. not (y == program_id)) there) ≡ false
        → is_there (cond (not b) (x ∷ filter (λ y. not (y == program_id)) there)
        (filter (λ y. not (y == program_id)) there))
        ≡ false
    go true is rest = rest
    go false is rest = ap (λ b. b || is_there (filter (λ y. not (y == program_id)) there)) is ∙ rest

-- one that joins
kiss_there : (there : List ℕ) → is_there (there ++ kiss_id ∷ []) ≡ true → is_there there ≡ true
kiss_there there is =
    elim (or_cases (is_there there) false (sym (list_any-append (λ other. other == program_id) there (kiss_id ∷ []))
    ∙ is)) [
      | inl here ↦ here
      | inr never ↦ absurd (cc)
    ]

abbrev input_of_kiss : Input
input_of_kiss = FromHost (Joined kiss_id Kiss)

abbrev input_of_program : Input
input_of_program = FromHost (Joined program_id Agw)

joined_kiss :
    (s : StationState) (after : Turn) (there : List ℕ) → after ≡ joining kiss_id Kiss (begin s)
    → Grows there s (there_after input_of_kiss after.out.closed there) after.now
joined_kiss s after there is before later =
    subst (λ (t : Turn). is_there (there_after input_of_kiss t.out.closed there) ≡ true → HasProgram t.now) (sym is)
    (go (has_place s)) later
  where
    go : (b : Bool)
        → let t = cond b (changing (with_host kiss_id Kiss) (begin s)) (closing kiss_id (begin s)) in
        is_there (there_after input_of_kiss t.out.closed there) ≡ true → HasProgram t.now
    go true h = has_more s.connections (new_connection kiss_id Kiss) (before (kiss_there there h))
    go false h = before (kiss_there there (left_there kiss_id (there ++ kiss_id ∷ []) h))

joined_program :
    (s : StationState) (after : Turn) (there : List ℕ) → after ≡ joining program_id Agw (begin s)
    → Grows there s (there_after input_of_program after.out.closed there) after.now
joined_program s after there is before later =
    subst (λ (t : Turn). is_there (there_after input_of_program t.out.closed there) ≡ true → HasProgram t.now) (sym is)
    (go (has_place s)) later
  where
    go : (b : Bool)
        → let t = cond b (changing (with_host program_id Agw) (begin s)) (closing program_id (begin s)) in
        is_there (there_after input_of_program t.out.closed there) ≡ true → HasProgram t.now
    go true h = has_last s.connections Agw
    go false h = absurd (not_both (is_there (filter (λ x. not (x == program_id)) (there ++ program_id ∷ []))) h
        (none_left (there ++ program_id ∷ [])))

-- ---- each step that occurs

pub there_grows :
    (e : End) (usual : Usual) (s : StationState) (after : Turn) (there : List ℕ) → Occurs e usual → HasHosts s
    → IsTurn (input_of e usual) (begin s) after
    → Grows there s (there_after (input_of e usual) after.out.closed there) after.now
there_grows e joins_kiss s after there occurs h turn = joined_kiss s after there turn
there_grows e sets_full s after there occurs h turn =
    stays_there s after there _ (stays_set s after (set_by (begin s) after h turn))
    (λ none. ap (λ c. without_ids c there) none)
there_grows e joins_program s after there occurs h turn = joined_program s after there turn
there_grows e registers s after there occurs h turn =
    let from = call_field (call_at e) in
    stays_there s after there _
    (stays_said (request register_kind from no_call []) s after
    (λ t same answered. register_kept SameConnections same_connections from no_call [] t after
    (none_passes (call_in from) t (subst (Each IsOfProgram) (sym same) h.registered)) answered)
    (said_by (request register_kind from no_call []) (begin s) after (registers_written e) h turn))
    (λ none. ap (λ c. without_ids c there) none)
there_grows e connects s after there occurs h turn =
    let m = request_between connect_kind e [] in
    stays_there s after there _
    (stays_said m s after
    (λ t same answered. connect_kept SameConnections same_connections program_id m.from m.to [] t after answered)
    (said_by m (begin s) after (between_written connect_kind e [] (omega arith)) h turn))
    (λ none. ap (λ c. without_ids c there) none)
there_grows e (gives piece) s after there occurs h turn =
    let m = request_between data_kind e piece in
    stays_there s after there _
    (stays_said m s after
    (λ t same answered. data_kept SameConnections same_connections program_id m.from m.to piece t after answered)
    (said_by m (begin s) after (between_written data_kind e piece occurs) h turn))
    (λ none. ap (λ c. without_ids c there) none)
there_grows e disconnects s after there occurs h turn =
    let m = request_between disconnect_kind e [] in
    stays_there s after there _
    (stays_said m s after
    (λ t same answered. disconnect_kept SameConnections same_connections program_id m.from m.to [] t after answered)
    (said_by m (begin s) after (between_written disconnect_kind e [] (omega arith)) h turn))
    (λ none. ap (λ c. without_ids c there) none)
there_grows e (hears octets) s after there occurs h turn =
    stays_there s after there _
    (stays_same s after (heard_kept SameConnections same_connections octets (begin s) after h.digi turn)) (λ none. refl)
there_grows e (ticks busy) s after there occurs h turn =
    let same = ticks_kept SameConnections same_connections busy (begin s) in
    stays_there s after there _
    (stays_same s after (subst (SameConnections (begin s)) (sym turn.effect)
    (record { connections = same.connections; closed = same.closed }))) (λ none. refl)
