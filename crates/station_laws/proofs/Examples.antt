-- A worked joint run with no data: a host at AAAA calls BBBB (SABM, UA) and disconnects (DISC, UA). What its
-- definitions compute to, and what one lost frame makes of them.
use Rattle.station_laws.proofs.Common.{All, inl, arith, list_all, and_parts, ltb-true, All-from_recursion, Callsign}
use Rattle.station_laws.proofs.Common.{IsCallCharacter, BeginsWithPath, way_back, Path, Role, Command, Frame, Setup}
use Rattle.station_laws.proofs.Common.{Eight, Sabm, Disc, Ua, IsFrame, reading, Idle, Calling, default_params, End, A}
use Rattle.station_laws.proofs.Common.{B, Makes, Keeps, World, Config, Joined, Bytes, Agw, answering_else, call_of_text}
use Rattle.station_laws.proofs.Common.{shown_to_hosts, joining, taking, event_at, making, no_layer_3, Route, path_along}
use Rattle.station_laws.proofs.Common.{StationState, new_station, usual_config, Turn, Step, new_stations, IsJointRun, FromHost}
use Rattle.station_laws.proofs.Common.{OffAir, Calls, Pairs, changes_of, IsQuietLink, IsHeardBy}
use Rattle.std.specs.Prelude.{◌≡◌, ℕ, ◌<◌, true, false, nat_lt, List, [], ◌∷◌, ◌++◌, Some, None, refl}
use Rattle.std.specs.List.{AllByRecursion as Each}
use Rattle.ax25_address.specs.Callsign.{IsCall}
use Rattle.ax25_address.specs.declared.path.Role.TheVariants.{Response}
use Rattle.agwpe_port.specs.Messages.{message_of}
use Rattle.link_machine.specs.Event.Event.{Connect as LinkConnect, Hear as LinkHear}
use Rattle.link_machine.specs.Step.{step as link_turn}
use Rattle.link_world.specs.declared.event.Event.TheVariants.{Connect, Disconnect, Hear}
use Rattle.link_world.specs.SetUps.{opened}
use Rattle.station.specs.Turn.{begin}
use Rattle.station_laws.specs.LinkOfCalls.{world_of}
use Rattle.station.specs.Heard.{IsOurs, IsReadAs, noting}
use Rattle.station.specs.Monitored.{heard_modulus}
use Rattle.station_laws.proofs.NewKeys.{first_key}

abbrev pub aaaa : Callsign
aaaa = record { name = 65 ∷ 65 ∷ 65 ∷ 65 ∷ []; ssid = 0 }

abbrev pub bbbb : Callsign
bbbb = record { name = 66 ∷ 66 ∷ 66 ∷ 66 ∷ []; ssid = 0 }

pub aaaa_valid : IsCall aaaa
aaaa_valid = record {
  name = record {
    shortest = omega arith;
    longest = omega arith;
    characters = All-from_recursion IsCallCharacter (65 ∷ 65 ∷ 65 ∷ 65 ∷ []) (
      inl (omega arith, omega arith),
      (
        inl (omega arith, omega arith),
        (inl (omega arith, omega arith), (inl (omega arith, omega arith), tt)),
      ),
    );
  };
  ssid = omega arith;
}

pub bbbb_valid : IsCall bbbb
bbbb_valid = record {
  name = record {
    shortest = omega arith;
    longest = omega arith;
    characters = All-from_recursion IsCallCharacter (66 ∷ 66 ∷ 66 ∷ 66 ∷ []) (
      inl (omega arith, omega arith),
      (
        inl (omega arith, omega arith),
        (inl (omega arith, omega arith), (inl (omega arith, omega arith), tt)),
      ),
    );
  };
  ssid = omega arith;
}

-- ---- frames

abbrev pub path_in : Callsign → Callsign → Role → Path
path_in source dest role = record { dest = dest; source = source; repeaters = record { items = [] }; role = role }

abbrev pub from_a : List ℕ → List ℕ
from_a rest = 132 ∷ 132 ∷ 132 ∷ 132 ∷ 64 ∷ 64 ∷ 224 ∷ 130 ∷ 130 ∷ 130 ∷ 130 ∷ 64 ∷ 64 ∷ 97 ∷ rest

abbrev pub from_b : List ℕ → List ℕ
from_b rest = 130 ∷ 130 ∷ 130 ∷ 130 ∷ 64 ∷ 64 ∷ 96 ∷ 132 ∷ 132 ∷ 132 ∷ 132 ∷ 64 ∷ 64 ∷ 225 ∷ rest

abbrev pub sabm : List ℕ
sabm = from_a (63 ∷ [])

abbrev pub disc : List ℕ
disc = from_a (83 ∷ [])

abbrev pub ua : List ℕ
ua = from_b (115 ∷ [])

abbrev pub command_path : Path
command_path = path_in aaaa bbbb Command

abbrev pub response_path : Path
response_path = path_in bbbb aaaa Response

abbrev pub sabm_frame : Frame
sabm_frame = record { path = command_path; kind = Setup Sabm true }

abbrev pub disc_frame : Frame
disc_frame = record { path = command_path; kind = Setup Disc true }

abbrev pub ua_frame : Frame
ua_frame = record { path = response_path; kind = Setup Ua true }

pub command_begins : (control : ℕ) → BeginsWithPath (from_a (control ∷ [])) command_path 14
command_begins control = (
  omega arith,
  record {
    count = omega arith;
    size = refl;
    destination = record { valid = bbbb_valid; reserved = 3; two_bits = omega arith; spelling = refl };
    source = record { valid = aaaa_valid; reserved = 3; two_bits = omega arith; spelling = refl };
    repeaters = λ k d below. absurd (omega arith);
  },
)

pub response_begins : (control : ℕ) → BeginsWithPath (from_b (control ∷ [])) response_path 14
response_begins control = (
  omega arith,
  record {
    count = omega arith;
    size = refl;
    destination = record { valid = aaaa_valid; reserved = 3; two_bits = omega arith; spelling = refl };
    source = record { valid = bbbb_valid; reserved = 3; two_bits = omega arith; spelling = refl };
    repeaters = λ k d below. absurd (omega arith);
  },
)

pub sabm_is : IsFrame sabm_frame Eight sabm
sabm_is = record { len = 14; path = command_begins 63; kind = record { numbered = tt; fits = tt }; body = refl }

pub disc_is : IsFrame disc_frame Eight disc
disc_is = record { len = 14; path = command_begins 83; kind = record { numbered = tt; fits = tt }; body = refl }

pub ua_is : IsFrame ua_frame Eight ua
ua_is = record { len = 14; path = response_begins 115; kind = record { numbered = tt; fits = tt }; body = refl }

each_low : (octets : List ℕ) → list_all (λ octet. nat_lt octet 256) octets ≡ true → Each (λ octet. octet < 256) octets
each_low [] h = tt
each_low (o ∷ octets) h =
    let both = and_parts (nat_lt o 256) (list_all (λ octet. nat_lt octet 256) octets) h in
    (ltb-true o 256 both.0, each_low octets both.1)

pub low : (octets : List ℕ) → list_all (λ octet. nat_lt octet 256) octets ≡ true → All (λ octet. octet < 256) octets
low octets h = All-from_recursion (λ octet. octet < 256) octets (each_low octets h)

-- ---- messages of a host

abbrev pub field : ℕ → List ℕ
field c = c ∷ c ∷ c ∷ c ∷ 0 ∷ 0 ∷ 0 ∷ 0 ∷ 0 ∷ 0 ∷ []

-- a header alone: its kind, CallFrom and CallTo
abbrev pub header : ℕ → List ℕ → List ℕ → List ℕ
header kind from to = 0 ∷ 0 ∷ 0 ∷ 0 ∷ kind ∷ 0 ∷ 0 ∷ 0 ∷ (from ++ (to ++ 0 ∷ 0 ∷ 0 ∷ 0 ∷ 0 ∷ 0 ∷ 0 ∷ 0 ∷ []))

-- ---- the steps

abbrev pub config : Config
config = usual_config default_params None

abbrev pub joins : End → StationState → Step
joins end s = record {
  station = end;
  input = FromHost (Joined 1 Agw);
  before = s;
  after = joining 1 Agw (begin s);
  turn = refl;
  octets = tt;
}

abbrev pub takes : StationState → List ℕ → Turn
takes s octets = taking 1 octets (begin s)

abbrev pub answers : StationState → List ℕ → Turn
answers s octets = answering_else 1 (message_of octets []) (takes s octets)

abbrev pub a_joins : Step
a_joins = joins A (new_station config 1)

abbrev pub b_joins : Step
b_joins = joins B (new_station config 2)

abbrev pub a_registers : Step
unfolding reading
a_registers =
    let octets = header 88 (field 65) (field 0) in
    let after = answers a_joins.after.now octets in record {
      station = A;
      input = FromHost (Bytes 1 octets);
      before = a_joins.after.now;
      after = after;
      turn = (after, (after, refl, refl), refl);
      octets = tt;
    }

abbrev pub b_registers : Step
unfolding reading
b_registers =
    let octets = header 88 (field 66) (field 0) in
    let after = answers b_joins.after.now octets in record {
      station = B;
      input = FromHost (Bytes 1 octets);
      before = b_joins.after.now;
      after = after;
      turn = (after, (after, refl, refl), refl);
      octets = tt;
    }

abbrev pub route : Route
route = record { local = aaaa; remote = bbbb; repeaters = [] }

abbrev pub a_calls : Step
unfolding reading call_of_text
a_calls =
    let octets = header 67 (field 65) (field 66) in
    let before = a_registers.after.now in
    let after = event_at 0 LinkConnect (making 0 1 no_layer_3 aaaa bbbb (path_along route) (takes before octets)) in
    record {
      station = A;
      input = FromHost (Bytes 1 octets);
      before = before;
      after = after;
      turn = (after, (after, (0, first_key before.links refl tt, refl), refl), refl);
      octets = tt;
    }

abbrev pub shown : Path → List ℕ → Frame → StationState → Turn
shown path octets frame s = shown_to_hosts (Some path) octets (Some frame) (begin s)

abbrev pub hearing :
    (end : End) (s : StationState) (path : Path) (octets : List ℕ) (frame : Frame) (between : Turn)
    → BeginsWithPath octets path 14 → IsReadAs (heard_modulus (Some path) s.links) octets (Some frame)
    → IsHeardBy (Some path) octets (shown path octets frame s) between → IsOurs (Some path) octets s true
    → All (λ octet. octet < 256) octets → Step
hearing end s path octets frame between begins read effect ours few = record {
  station = end;
  input = OffAir octets;
  before = s;
  after = noting (Some path) true between;
  turn = record {
    path = Some path;
    reading = (14, begins);
    monitored = Some frame;
    read_as = read;
    between = between;
    effect = effect;
    ours = true;
    is_ours = ours;
    told = refl;
  };
  octets = few;
}

abbrev pub b_hears_sabm : Step
unfolding reading call_of_text
b_hears_sabm =
    let before = b_registers.after.now in
    let made = making 0 1 no_layer_3 bbbb aaaa (way_back command_path Command)
    (shown command_path sabm sabm_frame before) in
    hearing B before command_path sabm sabm_frame (event_at 0 (LinkHear sabm_frame) made) (command_begins 63) sabm_is
    (Some sabm_frame, sabm_is, (0, first_key before.links refl tt, refl))
    (Some sabm_frame, sabm_is, refl) (low sabm refl)

abbrev pub a_hears_ua : Step
unfolding reading call_of_text link_turn
a_hears_ua =
    let before = a_calls.after.now in
    hearing A before response_path ua ua_frame (event_at 0 (LinkHear ua_frame) (shown response_path ua ua_frame before))
    (response_begins 115) ua_is (Some ua_frame, ua_is, refl) (Some ua_frame, ua_is, refl) (low ua refl)

abbrev pub a_disconnects : Step
unfolding reading call_of_text link_turn
a_disconnects =
    let octets = header 100 (field 65) (field 66) in
    let before = a_hears_ua.after.now in
    let after = answers before octets in record {
      station = A;
      input = FromHost (Bytes 1 octets);
      before = before;
      after = after;
      turn = (after, (after, refl, refl), refl);
      octets = tt;
    }

abbrev pub b_hears_disc : Step
unfolding reading call_of_text link_turn
b_hears_disc =
    let before = b_hears_sabm.after.now in
    hearing B before command_path disc disc_frame
    (event_at 0 (LinkHear disc_frame) (shown command_path disc disc_frame before)) (command_begins 83) disc_is
    (Some disc_frame, disc_is, refl) (Some disc_frame, disc_is, refl) (low disc refl)

abbrev pub a_hears_ua_again : Step
unfolding reading call_of_text link_turn
a_hears_ua_again =
    let before = a_disconnects.after.now in
    hearing A before response_path ua ua_frame (event_at 0 (LinkHear ua_frame) (shown response_path ua ua_frame before))
    (response_begins 115) ua_is (Some ua_frame, ua_is, refl) (Some ua_frame, ua_is, refl) (low ua refl)

-- ---- the run

abbrev pub steps : List Step
steps =
    a_joins ∷ b_joins ∷ a_registers ∷ b_registers ∷ a_calls ∷ b_hears_sabm ∷ a_hears_ua ∷ a_disconnects ∷ b_hears_disc
    ∷ a_hears_ua_again ∷ []

pub is_run : IsJointRun (new_stations config 1 config 2) steps
unfolding a_registers b_registers a_calls b_hears_sabm a_hears_ua a_disconnects b_hears_disc a_hears_ua_again
is_run = (refl, (refl, (refl, (refl, (refl, (refl, (refl, (refl, (refl, (refl, tt))))))))))

abbrev pub calls : Calls
calls = record { a = aaaa; b = bbbb }

-- B hears SABM and DISC, and A both UA
abbrev pub pairs : Pairs
pairs = record {
  at_a = record { heard = 6; sent = 0 } ∷ record { heard = 9; sent = 1 } ∷ [];
  at_b = record { heard = 5; sent = 0 } ∷ record { heard = 8; sent = 1 } ∷ [];
}

changes_are :
    changes_of calls pairs steps
    ≡ Makes A (path_along route) ∷ Keeps (Connect A) (true ∷ []) ∷ Makes B (way_back command_path Command)
    ∷ Keeps (Hear B) (true ∷ []) ∷ Keeps (Hear A) [] ∷ Keeps (Disconnect A) (true ∷ []) ∷ Keeps (Hear B) (true ∷ [])
    ∷ Keeps (Hear A) [] ∷ []
unfolding reading call_of_text link_turn
changes_are = refl

-- one set-up at each end, in which nothing was given; both ends are idle again, and nothing is in flight
abbrev pub following : World
following = world_of calls pairs default_params default_params steps

set_ups_of_a : following.a.end.set_ups ≡ opened 0 8 [] ∷ []
unfolding reading call_of_text link_turn
set_ups_of_a = refl

set_ups_of_b : following.b.end.set_ups ≡ opened 0 8 [] ∷ []
unfolding reading call_of_text link_turn
set_ups_of_b = refl

both_idle : (following.a.end.machine.control.state ≡ Idle) × (following.b.end.machine.control.state ≡ Idle)
unfolding reading call_of_text link_turn
both_idle = (refl, refl)

nothing_flies : (following.a.towards ≡ []) × (following.b.towards ≡ [])
unfolding reading call_of_text link_turn
nothing_flies = (refl, refl)

-- each SABM and DISC entered a quiet channel
pub is_quiet_run : IsQuietLink calls pairs default_params default_params steps
unfolding reading call_of_text link_turn
is_quiet_run = (refl, (refl, (refl, (refl, (refl, (refl, (refl, (refl, tt))))))))

-- ---- the SABM is lost

abbrev pub lost_steps : List Step
lost_steps = a_joins ∷ b_joins ∷ a_registers ∷ b_registers ∷ a_calls ∷ []

-- no pair names it
abbrev pub no_pairs : Pairs
no_pairs = record { at_a = []; at_b = [] }

lost_changes : changes_of calls no_pairs lost_steps ≡ Makes A (path_along route) ∷ Keeps (Connect A) (false ∷ []) ∷ []
unfolding reading call_of_text link_turn
lost_changes = refl

abbrev pub after_loss : World
after_loss = world_of calls no_pairs default_params default_params lost_steps

-- it is not in flight, and A goes on calling
lost_sabm : (after_loss.b.towards ≡ []) × (after_loss.a.end.machine.control.state ≡ Calling)
unfolding reading call_of_text link_turn
lost_sabm = (refl, refl)

lost_is_quiet : IsQuietLink calls no_pairs default_params default_params lost_steps
unfolding reading call_of_text link_turn
lost_is_quiet = (refl, (refl, tt))

lost_run : IsJointRun (new_stations config 1 config 2) lost_steps
unfolding a_registers b_registers a_calls
lost_run = (refl, (refl, (refl, (refl, (refl, tt)))))
