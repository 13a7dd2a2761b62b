-- The steps of the worked run, up to when A's data is queued for the first time. A host at AAAA calls BBBB. B's host
-- gives one octet, and B's UA is on the air; where it ends the channel takes an I frame. A's host gives one octet too.
use Rattle.station_laws.proofs.Common.{All, arith, BeginsWithPath, way_back, Path, Command, Frame, Eight, IsFrame}
use Rattle.station_laws.proofs.Common.{reading, default_params, Params, End, A, B, Config, Joined, Bytes, Agw}
use Rattle.station_laws.proofs.Common.{answering_else, call_of_text, shown_to_hosts, joining, taking, event_at, making}
use Rattle.station_laws.proofs.Common.{no_layer_3, Route, path_along, StationState, new_station, usual_config, Turn, Step}
use Rattle.station_laws.proofs.Common.{FromHost, OffAir, OfClock, IsHeardBy, ticking, ticking_links, Option, subst, sym, ⊤, and_parts}
use Rattle.station_laws.proofs.Common.{Callsign, frame_octets}
use Rattle.std.specs.Prelude.{◌≡◌, ℕ, zero, suc, ◌<◌, Bool, true, false, ◌&&◌, is_none, List, [], ◌∷◌, ◌++◌, Some, None, refl}
use Rattle.agwpe_port.specs.Messages.{message_of}
use Rattle.channel_access.specs.OnAir.{bits_of, flag_end, frames_end}
use Rattle.channel_access.specs.declared.air_tick.Sent.{Sent}
use Rattle.hdlc_framer.specs.BitOrder.{octet_bits}
use Rattle.channel_access.specs.Modem.{body_by, piece}
use Rattle.hdlc_framer.specs.CheckSequence.{fcs_of}
use Rattle.hdlc_framer.specs.Frames.{frame_bits, with_fcs}
use Rattle.link_machine.specs.Event.Event.{Connect as LinkConnect, Hear as LinkHear}
use Rattle.link_machine.specs.Step.{step as link_turn}
use Rattle.selective_reject.specs.Numbers.{ahead}
use Rattle.selective_reject.specs.Places.{missing}
use Rattle.station.specs.Asking.{first_wanting}
use Rattle.station.specs.Heard.{IsOurs, IsReadAs, noting}
use Rattle.station.specs.Monitored.{heard_modulus}
use Rattle.station.specs.Ticks.{IsSentFrame, air_of, asked_links}
use Rattle.station.specs.Turn.{begin}
use Rattle.station_laws.proofs.NewKeys.{first_key}
use Rattle.live_example.proofs.Frames.{aaaa, bbbb, sabm, sabm_frame, sabm_is, begins_to_b, ua, ua_frame, ua_is, low}
use Rattle.live_example.proofs.Frames.{begins_answer_to_a, to_b, answer_to_a}

-- ---- messages of a host

abbrev pub field : ℕ → List ℕ
field c = c ∷ c ∷ c ∷ c ∷ 0 ∷ 0 ∷ 0 ∷ 0 ∷ 0 ∷ 0 ∷ []

-- a header: its kind, PID, CallFrom and CallTo, and the length of the body
abbrev pub header : ℕ → ℕ → List ℕ → List ℕ → ℕ → List ℕ
header kind pid from to len =
    0 ∷ 0 ∷ 0 ∷ 0 ∷ kind ∷ 0 ∷ pid ∷ 0 ∷ (from ++ (to ++ len ∷ 0 ∷ 0 ∷ 0 ∷ 0 ∷ 0 ∷ 0 ∷ 0 ∷ []))

-- ---- the stations

-- A T1 of one tick, the shortest TXDELAY, and full duplex: so that the run is short.
abbrev pub params : Params
params = record default_params { t1 = 1 }

abbrev pub config : Config
config = record (usual_config params None) {
  channel = record { tx_delay = 0; persist = 63; slot_time = 10; tx_tail = 0; full_duplex = true };
}

-- ---- kinds of steps

abbrev pub joins : End → StationState → Step
joins end s = record {
  station = end;
  input = FromHost (Joined 1 Agw);
  before = s;
  after = joining 1 Agw (begin s);
  turn = refl;
  octets = tt;
}

abbrev pub takes : StationState → List ℕ → Turn
takes s octets = taking 1 octets (begin s)

-- a message that is no call
abbrev pub answers : StationState → List ℕ → List ℕ → Turn
answers s octets body = answering_else 1 (message_of octets body) (takes s octets)

abbrev pub shown : Path → List ℕ → Frame → StationState → Turn
shown path octets frame s = shown_to_hosts (Some path) octets (Some frame) (begin s)

abbrev pub hearing :
    (end : End) (s : StationState) (path : Path) (octets : List ℕ) (frame : Frame) (between : Turn)
    → BeginsWithPath octets path 14 → IsReadAs (heard_modulus (Some path) s.links) octets (Some frame)
    → IsHeardBy (Some path) octets (shown path octets frame s) between → IsOurs (Some path) octets s true
    → All (λ octet. octet < 256) octets → Step
hearing end s path octets frame between begins read effect ours few = record {
  station = end;
  input = OffAir octets;
  before = s;
  after = noting (Some path) true between;
  turn = record {
    path = Some path;
    reading = (14, begins);
    monitored = Some frame;
    read_as = read;
    between = between;
    effect = effect;
    ours = true;
    is_ours = ours;
    told = refl;
  };
  octets = few;
}

-- the state of a station after a tick in which it hears nothing, and names no frame as sent
abbrev pub next : StationState → StationState
next s = (ticking false None (begin s)).now

abbrev pub tick : (end : End) (s : StationState) → (air_of false s).sent ≡ None → Step
tick end s silent = record {
  station = end;
  input = OfClock false;
  before = s;
  after = ticking false None (begin s);
  turn = record {
    monitored = None;
    read_as =
        subst (λ (sent : Option Sent). IsSentFrame sent (asked_links false (begin s)).now.links None) (sym silent)
        refl;
    effect = refl;
  };
  octets = tt;
}

-- so many ticks one after another
abbrev pub NameNone : ℕ → StationState → Type 0
NameNone zero s = ⊤
NameNone (suc count) s = ((air_of false s).sent ≡ None) × NameNone count (next s)

abbrev pub all_silent : ℕ → StationState → Bool
all_silent zero s = true
all_silent (suc count) s = is_none (air_of false s).sent && all_silent count (next s)

none_of : (sent : Option Sent) → is_none sent ≡ true → sent ≡ None
none_of None h = refl
none_of (Some sent) h = absurd (cc)

pub silent_by : (count : ℕ) (s : StationState) → all_silent count s ≡ true → NameNone count s
silent_by zero s h = tt
silent_by (suc count) s h =
    let both = and_parts (is_none (air_of false s).sent) (all_silent count (next s)) h in
    (none_of (air_of false s).sent both.0, silent_by count (next s) both.1)

abbrev pub after_ticks : ℕ → StationState → StationState
after_ticks zero s = s
after_ticks (suc count) s = after_ticks count (next s)

abbrev pub ticks_of : (end : End) (count : ℕ) → (s : StationState) → NameNone count s → List Step
ticks_of end zero s silent = []
ticks_of end (suc count) s silent = tick end s silent.0 ∷ ticks_of end count (next s) silent.1

-- ---- the call

abbrev pub a_joins : Step
a_joins = joins A (new_station config 1)

abbrev pub b_joins : Step
b_joins = joins B (new_station config 2)

abbrev pub a_registers : Step
unfolding reading
a_registers =
    let octets = header 88 0 (field 65) (field 0) 0 in
    let after = answers a_joins.after.now octets [] in record {
      station = A;
      input = FromHost (Bytes 1 octets);
      before = a_joins.after.now;
      after = after;
      turn = (after, (after, refl, refl), refl);
      octets = tt;
    }

abbrev pub b_registers : Step
unfolding reading
b_registers =
    let octets = header 88 0 (field 66) (field 0) 0 in
    let after = answers b_joins.after.now octets [] in record {
      station = B;
      input = FromHost (Bytes 1 octets);
      before = b_joins.after.now;
      after = after;
      turn = (after, (after, refl, refl), refl);
      octets = tt;
    }

abbrev pub route : Route
route = record { local = aaaa; remote = bbbb; repeaters = [] }

abbrev pub a_calls : Step
unfolding reading call_of_text
a_calls =
    let octets = header 67 0 (field 65) (field 66) 0 in
    let before = a_registers.after.now in
    let after = event_at 0 LinkConnect (making 0 1 no_layer_3 aaaa bbbb (path_along route) (takes before octets)) in
    record {
      station = A;
      input = FromHost (Bytes 1 octets);
      before = before;
      after = after;
      turn = (after, (after, (0, first_key before.links refl tt, refl), refl), refl);
      octets = tt;
    }

abbrev pub b_hears_sabm : Step
unfolding reading call_of_text
b_hears_sabm =
    let before = b_registers.after.now in
    let made = making 0 1 no_layer_3 bbbb aaaa (way_back to_b Command) (shown to_b sabm sabm_frame before) in
    hearing B before to_b sabm sabm_frame (event_at 0 (LinkHear sabm_frame) made) (begins_to_b (63 ∷ [])) sabm_is
    (Some sabm_frame, sabm_is, (0, first_key before.links refl tt, refl))
    (Some sabm_frame, sabm_is, refl) (low sabm refl)

abbrev pub a_hears_ua : Step
unfolding reading call_of_text link_turn
a_hears_ua =
    let before = a_calls.after.now in
    hearing A before answer_to_a ua ua_frame (event_at 0 (LinkHear ua_frame) (shown answer_to_a ua ua_frame before))
    (begins_answer_to_a (115 ∷ [])) ua_is (Some ua_frame, ua_is, refl) (Some ua_frame, ua_is, refl) (low ua refl)

-- B's host gives one octet
abbrev pub b_gives : Step
unfolding reading call_of_text link_turn
b_gives =
    let octets = header 68 240 (field 66) (field 65) 1 ++ 105 ∷ [] in
    let before = b_hears_sabm.after.now in
    let after = answers before octets (105 ∷ []) in record {
      station = B;
      input = FromHost (Bytes 1 octets);
      before = before;
      after = after;
      turn = (after, (after, refl, refl), refl);
      octets = tt;
    }

-- A's host too
abbrev pub a_gives : Step
unfolding reading call_of_text link_turn
a_gives =
    let octets = header 68 240 (field 65) (field 66) 1 ++ 104 ∷ [] in
    let before = a_hears_ua.after.now in
    let after = answers before octets (104 ∷ []) in record {
      station = A;
      input = FromHost (Bytes 1 octets);
      before = before;
      after = after;
      turn = (after, (after, refl, refl), refl);
      octets = tt;
    }

-- ---- B's UA goes on the air, and names no frame for thirteen ticks. With the last of them the I frame is queued.

pub b_all_silent : all_silent 13 b_gives.after.now ≡ true
unfolding reading call_of_text link_turn ticking_links first_wanting frames_end flag_end bits_of body_by piece frame_bits
    with_fcs fcs_of octet_bits frame_octets missing
b_all_silent = refl

abbrev pub b_ticks : List Step
b_ticks = ticks_of B 13 b_gives.after.now (silent_by 13 b_gives.after.now b_all_silent)
