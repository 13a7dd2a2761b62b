-- In a run of the bench the host program of B neither connects nor disconnects, and each station has the connections
-- of the bench.
use Rattle.channel_bench.proofs.Common.{◌≡◌, ℕ, ◌≤◌, List, [], ◌∷◌, ◌++◌, length, Option, Some, None, refl, sym, ap}
use Rattle.channel_bench.proofs.Common.{◌∙◌, subst, arith, All, All-from_recursion, call_field, spelling, AgwMessage}
use Rattle.channel_bench.proofs.Common.{IsWritten, End, A, B, other, Kiss, Agw, register_kind, connect_kind}
use Rattle.channel_bench.proofs.Common.{data_kind, disconnect_kind, IsAnswered, Connection, connection_of}
use Rattle.channel_bench.proofs.Common.{new_connection, taking, no_call, StationState, asked_links, Turn, begin}
use Rattle.channel_bench.proofs.Common.{BenchWords, Near, IsStep, program_id, kiss_id, BAsksNothing, call_at}
use Rattle.channel_bench.proofs.Common.{full_duplex_octets, most_octets, request, request_between, Moment, steps_in}
use Rattle.channel_bench.proofs.Common.{Steps, IsTurn, Step, Stations, state_of, with_state}
use Rattle.station_laws.specs.HostsAsk.{AsksNothing, InputAsksNothing, OctetsAskBy, OctetsAskNothing, StepAsksNothing}
use Rattle.channel_bench.proofs.CoreRun.{KeptByCore, Occurs, Usual, input_of, told_station}
use Rattle.channel_bench.proofs.CoreRun.Usual.{joins_kiss, sets_full, joins_program, registers, connects, gives}
use Rattle.channel_bench.proofs.CoreRun.Usual.{disconnects, hears, ticks}
use Rattle.channel_bench.proofs.HostStreams.{IsWhole, new_setting, new_stream, one_new}
use Rattle.channel_bench.proofs.HostsStay.{HasHosts, IsHosts, IsOfProgram, IsSaid, IsSet, SameHosts, found}
use Rattle.channel_bench.proofs.HostsStay.{joins_hosts, kiss_taken, none_passes}
use Rattle.channel_bench.proofs.HostsStay.{said_by, set_by, same_hosts, still_has, taken_hosts}
use Rattle.channel_bench.proofs.HostsStay.IsSaid.{unheard, said}
use Rattle.channel_bench.proofs.HostsStay.IsSet.{unheard as alone, full}
use Rattle.std.specs.List.{AllByRecursion as Each}
use Rattle.station.specs.CallFields.{call_in}
use Rattle.channel_bench.proofs.NotedRun.{steps_more, steps_passed}
use Rattle.channel_bench.proofs.TurnWalks.{connect_kept, data_kept, disconnect_kept, heard_kept, register_kept}
use Rattle.channel_bench.proofs.TurnWalks.{ticks_kept}

-- ---- the messages of the host programs

call_size : (end : End) → length (call_field (call_at end)) ≡ 10
call_size A = refl
call_size B = refl

pub registers_written : (end : End) → IsWritten (request register_kind (call_field (call_at end)) no_call [])
registers_written end = record { from = call_size end; to = refl; body = omega arith }

pub between_written : (kind : ℕ) (end : End) (body : List ℕ) → length body ≤ most_octets
    → IsWritten (request_between kind end body)
between_written kind end body short = record { from = call_size end; to = call_size (other end); body = omega arith }

-- ---- the connections after a step

kiss_joins : IsHosts (new_connection kiss_id Kiss)
kiss_joins = record {
  kiss = λ same. refl;
  program = λ same. absurd (omega arith);
  whole = λ agw. absurd (cc);
  setting = λ kiss. new_setting;
  raw = refl;
  monitors = refl;
}

program_joins : IsHosts (new_connection program_id Agw)
program_joins = record {
  kiss = λ same. absurd (omega arith);
  program = λ same. refl;
  whole = λ agw. new_stream;
  setting = λ kiss. absurd (cc);
  raw = refl;
  monitors = refl;
}

said_hosts :
    (message : AgwMessage) (before after : Turn) → IsWritten message → HasHosts before.now
    → ((t : Turn) → t.now.registrations ≡ before.now.registrations → IsAnswered program_id message t after
    → SameHosts t after) → IsSaid message before after
    → HasHosts after.now
said_hosts message before after written h keeps (unheard same) = subst (λ (t : Turn). HasHosts t.now) (sym same) h
said_hosts message before after written h keeps (said answered) =
    let took = taking program_id (spelling message) before in
    still_has took after (keeps took refl answered) (taken_hosts message before written h)

set_hosts : (before after : Turn) → HasHosts before.now → IsSet before after → HasHosts after.now
set_hosts before after h (alone same) = subst (λ (t : Turn). HasHosts t.now) (sym same) h
set_hosts before after h (full same) =
    let took = kiss_taken before h in
    subst (λ (t : Turn). HasHosts t.now) (sym same) (record {
      connections = took.connections;
      digi = took.digi;
      paclen = took.paclen;
      registered = took.registered;
    })

pub hosts_after :
    (end : End) (usual : Usual) (s : StationState) (after : Turn) → Occurs end usual
    → IsTurn (input_of end usual) (begin s) after
    → HasHosts s → HasHosts after.now
hosts_after end joins_kiss s after occurs turn h =
    subst (λ (t : Turn). HasHosts t.now) (sym turn) (joins_hosts kiss_id Kiss s kiss_joins h)
hosts_after end sets_full s after occurs turn h = set_hosts (begin s) after h (set_by (begin s) after h turn)
hosts_after end joins_program s after occurs turn h =
    subst (λ (t : Turn). HasHosts t.now) (sym turn) (joins_hosts program_id Agw s program_joins h)
hosts_after end registers s after occurs turn h =
    let from = call_field (call_at end) in
    let message = request register_kind from no_call [] in
    said_hosts message (begin s) after (registers_written end) h
    (λ t same answered. register_kept SameHosts same_hosts from no_call [] t after
    (none_passes (call_in from) t (subst (Each IsOfProgram) (sym same) h.registered)) answered)
    (said_by message (begin s) after (registers_written end) h turn)
hosts_after end connects s after occurs turn h =
    let message = request_between connect_kind end [] in
    let written = between_written connect_kind end [] (omega arith) in
    said_hosts message (begin s) after written h
    (λ t same answered. connect_kept SameHosts same_hosts program_id message.from message.to [] t after answered)
    (said_by message (begin s) after written h turn)
hosts_after end (gives piece) s after occurs turn h =
    let message = request_between data_kind end piece in
    let written = between_written data_kind end piece occurs in
    said_hosts message (begin s) after written h
    (λ t same answered. data_kept SameHosts same_hosts program_id message.from message.to piece t after answered)
    (said_by message (begin s) after written h turn)
hosts_after end disconnects s after occurs turn h =
    let message = request_between disconnect_kind end [] in
    let written = between_written disconnect_kind end [] (omega arith) in
    said_hosts message (begin s) after written h
    (λ t same answered. disconnect_kept SameHosts same_hosts program_id message.from message.to [] t after answered)
    (said_by message (begin s) after written h turn)
hosts_after end (hears octets) s after occurs turn h =
    still_has (begin s) after (heard_kept SameHosts same_hosts octets (begin s) after h.digi turn) h
hosts_after end (ticks busy) s after occurs turn h =
    let made = still_has (begin s) (asked_links busy (begin s)) (ticks_kept SameHosts same_hosts busy (begin s)) h in
    subst (λ (t : Turn). HasHosts t.now) (sym turn.effect)
    (record {
      connections = made.connections;
      digi = made.digi;
      paclen = made.paclen;
      registered = made.registered;
    })

-- ---- the host program of B asks nothing

message_asks :
    (message : AgwMessage) (c : Connection) → IsWritten message → AsksNothing message → IsWhole c.stream
    → OctetsAskBy Agw c (spelling message)
message_asks message c written asks whole =
    subst (All AsksNothing) (sym (one_new c.stream message written whole))
    (All-from_recursion AsksNothing (message ∷ []) (asks, tt))

said_asks :
    (message : AgwMessage) (s : StationState) → IsWritten message → AsksNothing message → HasHosts s
    → OctetsAskNothing (connection_of program_id s.connections) (spelling message)
said_asks message s written asks h = go (connection_of program_id s.connections) refl
  where
    go : (place : Option Connection) → connection_of program_id s.connections ≡ place
        → OctetsAskNothing place (spelling message)
    go None is = tt
    go (Some c) is =
        let at = found IsHosts program_id s.connections c h.connections is in
        let by_agwpe = at.0.program at.1 in
        subst (λ kind. OctetsAskBy kind c (spelling message)) (sym by_agwpe)
        (message_asks message c written asks (at.0.whole by_agwpe))

duplex_asks : (s : StationState) → HasHosts s
    → OctetsAskNothing (connection_of kiss_id s.connections) full_duplex_octets
duplex_asks s h = go (connection_of kiss_id s.connections) refl
  where
    go : (place : Option Connection) → connection_of kiss_id s.connections ≡ place
        → OctetsAskNothing place full_duplex_octets
    go None is = tt
    go (Some c) is =
        let at = found IsHosts kiss_id s.connections c h.connections is in
        let by_kiss = at.0.kiss at.1 in
        subst (λ kind. OctetsAskBy kind c full_duplex_octets) (sym by_kiss) tt

-- and nobody is closed
said_closes :
    (message : AgwMessage) (before after : Turn)
    → ((t : Turn) → t.now.registrations ≡ before.now.registrations → IsAnswered program_id message t after
    → SameHosts t after) → IsSaid message before after → after.out.closed ≡ before.out.closed
said_closes message before after keeps (unheard same) = ap (λ (t : Turn). t.out.closed) same
said_closes message before after keeps (said answered) =
    (keeps (taking program_id (spelling message) before) refl answered).closed

set_closes : (before after : Turn) → IsSet before after → after.out.closed ≡ before.out.closed
set_closes before after (alone same) = ap (λ (t : Turn). t.out.closed) same
set_closes before after (full same) = ap (λ (t : Turn). t.out.closed) same

b_asks :
    (usual : Usual) (s : StationState) (after : Turn) → Occurs B usual → IsTurn (input_of B usual) (begin s) after
    → HasHosts s → InputAsksNothing (input_of B usual) s after.out.closed
b_asks joins_kiss s after occurs turn h = tt
b_asks sets_full s after occurs turn h = (duplex_asks s h, set_closes (begin s) after (set_by (begin s) after h turn))
b_asks joins_program s after occurs turn h = tt
b_asks registers s after occurs turn h =
    let from = call_field (call_at B) in
    let message = request register_kind from no_call [] in (
      said_asks message s (registers_written B) (record { no_call = refl; no_end = refl }) h,
      said_closes message (begin s) after
          (λ t same answered. register_kept SameHosts same_hosts from no_call [] t after
          (none_passes (call_in from) t (subst (Each IsOfProgram) (sym same) h.registered)) answered)
          (said_by message (begin s) after (registers_written B) h turn),
    )
b_asks connects s after occurs turn h = absurd occurs
b_asks (gives piece) s after occurs turn h =
    let message = request_between data_kind B piece in
    let written = between_written data_kind B piece occurs in (
      said_asks message s written (record { no_call = refl; no_end = refl }) h,
      said_closes message (begin s) after
          (λ t same answered. data_kept SameHosts same_hosts program_id message.from message.to piece t after answered)
          (said_by message (begin s) after written h turn),
    )
b_asks disconnects s after occurs turn h = absurd occurs
b_asks (hears octets) s after occurs turn h = tt
b_asks (ticks busy) s after occurs turn h = tt

-- ---- a run

asks_more :
    (steps : List Step) (step : Step) → BAsksNothing steps
    → (step.station ≡ B → StepAsksNothing step)
    → BAsksNothing (steps ++ step ∷ [])
asks_more [] step h next = (next, tt)
asks_more (first ∷ steps) step h next = (h.0, asks_more steps step h.1 next)

pub record AskLittle (moments : List Moment) (s : Stations) : Type 0 where
  pub asks : BAsksNothing (steps_in moments)
  pub a : HasHosts s.a
  pub b : HasHosts s.b

hosts_with : (end : End) (state : StationState) (moments : List Moment) (s : Stations)
    → BAsksNothing (steps_in moments) → HasHosts state
    → HasHosts s.a → HasHosts s.b → AskLittle moments (with_state end state s)
hosts_with A state moments s asks h a b = record { asks = asks; a = h; b = b }
hosts_with B state moments s asks h a b = record { asks = asks; a = a; b = h }

pub hosts_at : (end : End) (s : Stations) → HasHosts s.a → HasHosts s.b → HasHosts (state_of end s)
hosts_at A s a b = a
hosts_at B s a b = b

at_b :
    (end : End) (usual : Usual) (s : StationState) (after : Turn) → Occurs end usual
    → IsTurn (input_of end usual) (begin s) after → HasHosts s → end ≡ B
    → InputAsksNothing (input_of end usual) s after.out.closed
at_b A usual s after occurs turn h same = absurd (cc)
at_b B usual s after occurs turn h same = b_asks usual s after occurs turn h

step_asks :
    (end : End) (usual : Usual) (matched : Option ℕ) (before after : Near) (s : Stations) → Occurs end usual
    → IsStep end (input_of end usual) matched before after → before.side.station ≡ state_of end s
    → AskLittle before.common.moments s
    → AskLittle after.common.moments (with_state end after.side.station s)
step_asks end usual matched before after s occurs h at little =
    let step : Step = record {
      station = end;
      input = input_of end usual;
      before = before.side.station;
      after = h.turn;
      turn = h.makes;
      octets = h.octets;
    } in
    let moments_are : after.common.moments ≡ before.common.moments ++ Steps step matched ∷ [] = ap
    (λ (n : Near). n.common.moments) h.is in
    let station_is : after.side.station ≡ h.turn.now =
    ap (λ (n : Near). n.side.station) h.is ∙ told_station h.turn.out.pieces _ in
    let has = subst HasHosts (sym at) (hosts_at end s little.a little.b) in
    let asks = asks_more (steps_in before.common.moments) step little.asks
    (at_b end usual before.side.station h.turn occurs h.makes has) in
    hosts_with end after.side.station after.common.moments s
    (subst BAsksNothing (sym (ap steps_in moments_are ∙ steps_more before.common.moments step matched)) asks)
    (subst HasHosts (sym station_is)
    (hosts_after end usual before.side.station h.turn occurs h.makes has)) little.a little.b

pub asks_kept : (w : BenchWords) → KeptByCore w AskLittle
asks_kept w = record {
  new = record {
    asks = tt;
    a = record { connections = tt; digi = refl; paclen = refl; registered = tt };
    b = record { connections = tt; digi = refl; paclen = refl; registered = tt };
  };
  steps = λ end usual matched before after s occurs h calm at little. step_asks end usual matched before after
      s occurs h at little;
  passes = λ sender below moments s little.
      record {
        asks = subst BAsksNothing
            (sym (steps_passed moments sender below)) little.asks;
        a = little.a;
        b = little.b;
      };
}
