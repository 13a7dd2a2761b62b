-- A worked joint run with data: a host at AAAA calls BBBB (SABM, UA), whose host gives one octet. Another host of BBBB
-- has set full duplex and the shortest TXDELAY, so that the UA is on the air at once, and in the tick in which it ends
-- the channel takes an I frame of the link. The client has taken all that its station has for it, and prints that octet
-- while the call goes on.
use Rattle.station_laws.proofs.Common.{All, inl, inr, arith, list_all, and_parts, ltb-true, All-from_recursion}
use Rattle.station_laws.proofs.Common.{Callsign, IsCallCharacter, BeginsWithPath, way_back, Path, Role, Command, Frame}
use Rattle.station_laws.proofs.Common.{Setup, Info, Eight, Sabm, Ua, IsFrame, reading, default_params, End, A, B}
use Rattle.station_laws.proofs.Common.{Config, Joined, Bytes, Agw, Kiss, answering_else, call_of_text, shown_to_hosts}
use Rattle.station_laws.proofs.Common.{joining, taking, event_at, making, no_layer_3, Route, path_along, StationState}
use Rattle.station_laws.proofs.Common.{new_station, usual_config, Turn, Step, new_stations, IsJointRun, FromHost, OffAir, OfClock}
use Rattle.station_laws.proofs.Common.{Calls}
use Rattle.station_laws.proofs.Common.{Pairs, IsQuietLink, frame_octets, WindowsFit, Pair, RiseBoth, AreAlikeButForH}
use Rattle.station_laws.proofs.Common.{HearsLinkFrame, IsHeardPair, HasPair, AreHeardInOrder, All-contains_itself}
use Rattle.station_laws.proofs.Common.{AllPairs, slice_get, get_or, sym, ◌∙◌, subst, Connection, IsHeardBy, changing}
use Rattle.station_laws.proofs.Common.{IsOffAir, IsTurn, Option, Stations, all_stepped, stepped, each_append}
use Rattle.station_laws.proofs.Common.{each_weaker, ticking}
use Rattle.station_laws.proofs.Common.{ticking_links, with_param, ⊤}
use Rattle.std.specs.Prelude.{◌≡◌, ◌≢◌, ℕ, zero, suc, ◌+◌, ◌<◌, true, false, nat_lt, Contains, List, [], ◌∷◌, ◌++◌}
use Rattle.std.specs.Prelude.{length}
use Rattle.std.specs.Prelude.{Some, None, refl}
use Rattle.std.specs.List.{AllByRecursion as Each}
use Rattle.std.proofs.lemmas.List.{append-nil}
use Rattle.std.proofs.lemmas.List.Kept.{AllPairs-cons}
use Rattle.ax25_address.specs.Callsign.{IsCall}
use Rattle.ax25_address.specs.declared.path.Role.TheVariants.{Response}
use Rattle.agwpe_port.specs.Messages.{message_of, spelling}
use Rattle.agwpe_client.specs.CallRun.{CallPlan, call_run, printed_after}
use Rattle.channel_access.specs.Modem.{body_by, piece}
use Rattle.channel_access.specs.OnAir.{bits_of, flag_end, frames_end}
use Rattle.channel_access.specs.declared.air_tick.Sent.{Sent}
use Rattle.channel_access.specs.declared.parameters.Param.TheVariants.{FullDuplex, TxDelay}
use Rattle.hdlc_framer.specs.BitOrder.{octet_bits}
use Rattle.hdlc_framer.specs.CheckSequence.{fcs_of}
use Rattle.hdlc_framer.specs.Frames.{frame_bits, with_fcs}
use Rattle.kiss_port.specs.Items.{items_in}
use Rattle.kiss_port.specs.WebRequests.{has_web_beginning, is_web_request}
use Rattle.link_machine.specs.Event.Event.{Connect as LinkConnect, Hear as LinkHear}
use Rattle.link_machine.specs.Params.{HasWindows}
use Rattle.link_machine.specs.Step.{step as link_turn}
use Rattle.selective_reject.specs.Numbers.{ahead}
use Rattle.selective_reject.specs.Places.{missing}
use Rattle.station.specs.Heard.{IsOurs, IsReadAs, noting}
use Rattle.station.specs.Monitored.{heard_modulus}
use Rattle.station_laws.proofs.NewKeys.{first_key}
use Rattle.station.specs.Asking.{first_wanting}
use Rattle.station.specs.Ticks.{IsSentFrame, air_of, asked_links}
use Rattle.station.specs.Turn.{begin}
use Rattle.station.specs.declared.host_out.Piece.{Piece}
use Rattle.call_laws.specs.Client.{IsBetweenCalls, IsClientOf, IsClientStep, octets_had, pieces_at, pieces_for}
use Rattle.call_laws.specs.FirstPart.{IsFirstPart}
use Rattle.call_laws.specs.PrintsGiven.{CallLaw, PrintsGiven}
use Rattle.station_laws.specs.LinkOfCalls.{world_of}

abbrev pub aaaa : Callsign
aaaa = record { name = 65 ∷ 65 ∷ 65 ∷ 65 ∷ []; ssid = 0 }

abbrev pub bbbb : Callsign
bbbb = record { name = 66 ∷ 66 ∷ 66 ∷ 66 ∷ []; ssid = 0 }

pub aaaa_valid : IsCall aaaa
aaaa_valid = record {
  name = record {
    shortest = omega arith;
    longest = omega arith;
    characters = All-from_recursion IsCallCharacter (65 ∷ 65 ∷ 65 ∷ 65 ∷ []) (
      inl (omega arith, omega arith),
      (
        inl (omega arith, omega arith),
        (inl (omega arith, omega arith), (inl (omega arith, omega arith), tt)),
      ),
    );
  };
  ssid = omega arith;
}

pub bbbb_valid : IsCall bbbb
bbbb_valid = record {
  name = record {
    shortest = omega arith;
    longest = omega arith;
    characters = All-from_recursion IsCallCharacter (66 ∷ 66 ∷ 66 ∷ 66 ∷ []) (
      inl (omega arith, omega arith),
      (
        inl (omega arith, omega arith),
        (inl (omega arith, omega arith), (inl (omega arith, omega arith), tt)),
      ),
    );
  };
  ssid = omega arith;
}

-- ---- frames

abbrev pub path_in : Callsign → Callsign → Role → Path
path_in source dest role = record { dest = dest; source = source; repeaters = record { items = [] }; role = role }

abbrev pub from_a : List ℕ → List ℕ
from_a rest = 132 ∷ 132 ∷ 132 ∷ 132 ∷ 64 ∷ 64 ∷ 224 ∷ 130 ∷ 130 ∷ 130 ∷ 130 ∷ 64 ∷ 64 ∷ 97 ∷ rest

abbrev pub from_b : List ℕ → List ℕ
from_b rest = 130 ∷ 130 ∷ 130 ∷ 130 ∷ 64 ∷ 64 ∷ 96 ∷ 132 ∷ 132 ∷ 132 ∷ 132 ∷ 64 ∷ 64 ∷ 225 ∷ rest

abbrev pub sabm : List ℕ
sabm = from_a (63 ∷ [])

abbrev pub ua : List ℕ
ua = from_b (115 ∷ [])

-- an I frame from B, as a command: N(S) and N(R) 0, no layer 3, and one octet
abbrev pub info : List ℕ
info =
    130 ∷ 130 ∷ 130 ∷ 130 ∷ 64 ∷ 64 ∷ 224 ∷ 132 ∷ 132 ∷ 132 ∷ 132 ∷ 64 ∷ 64 ∷ 97 ∷ 0 ∷ 240 ∷ 104 ∷ []

abbrev pub command_path : Path
command_path = path_in aaaa bbbb Command

abbrev pub response_path : Path
response_path = path_in bbbb aaaa Response

abbrev pub back_path : Path
back_path = path_in bbbb aaaa Command

abbrev pub sabm_frame : Frame
sabm_frame = record { path = command_path; kind = Setup Sabm true }

abbrev pub ua_frame : Frame
ua_frame = record { path = response_path; kind = Setup Ua true }

abbrev pub info_frame : Frame
info_frame = record { path = back_path; kind = Info 0 0 false 240 (104 ∷ []) }

pub command_begins : (control : ℕ) → BeginsWithPath (from_a (control ∷ [])) command_path 14
command_begins control = (
  omega arith,
  record {
    count = omega arith;
    size = refl;
    destination = record { valid = bbbb_valid; reserved = 3; two_bits = omega arith; spelling = refl };
    source = record { valid = aaaa_valid; reserved = 3; two_bits = omega arith; spelling = refl };
    repeaters = λ k d below. absurd (omega arith);
  },
)

pub response_begins : (control : ℕ) → BeginsWithPath (from_b (control ∷ [])) response_path 14
response_begins control = (
  omega arith,
  record {
    count = omega arith;
    size = refl;
    destination = record { valid = aaaa_valid; reserved = 3; two_bits = omega arith; spelling = refl };
    source = record { valid = bbbb_valid; reserved = 3; two_bits = omega arith; spelling = refl };
    repeaters = λ k d below. absurd (omega arith);
  },
)

pub info_begins : BeginsWithPath info back_path 14
info_begins = (
  omega arith,
  record {
    count = omega arith;
    size = refl;
    destination = record { valid = aaaa_valid; reserved = 3; two_bits = omega arith; spelling = refl };
    source = record { valid = bbbb_valid; reserved = 3; two_bits = omega arith; spelling = refl };
    repeaters = λ k d below. absurd (omega arith);
  },
)

pub sabm_is : IsFrame sabm_frame Eight sabm
sabm_is = record { len = 14; path = command_begins 63; kind = record { numbered = tt; fits = tt }; body = refl }

pub ua_is : IsFrame ua_frame Eight ua
ua_is = record { len = 14; path = response_begins 115; kind = record { numbered = tt; fits = tt }; body = refl }

pub info_is : IsFrame info_frame Eight info
info_is = record {
  len = 14;
  path = info_begins;
  kind = record { numbered = (omega arith, omega arith); fits = omega arith };
  body = refl;
}

each_low : (octets : List ℕ) → list_all (λ octet. nat_lt octet 256) octets ≡ true → Each (λ octet. octet < 256) octets
each_low [] h = tt
each_low (o ∷ octets) h =
    let both = and_parts (nat_lt o 256) (list_all (λ octet. nat_lt octet 256) octets) h in
    (ltb-true o 256 both.0, each_low octets both.1)

pub low : (octets : List ℕ) → list_all (λ octet. nat_lt octet 256) octets ≡ true → All (λ octet. octet < 256) octets
low octets h = All-from_recursion (λ octet. octet < 256) octets (each_low octets h)

-- ---- messages of a host

abbrev pub field : ℕ → List ℕ
field c = c ∷ c ∷ c ∷ c ∷ 0 ∷ 0 ∷ 0 ∷ 0 ∷ 0 ∷ 0 ∷ []

-- a header alone: its kind, CallFrom and CallTo
abbrev pub header : ℕ → List ℕ → List ℕ → List ℕ
header kind from to = 0 ∷ 0 ∷ 0 ∷ 0 ∷ kind ∷ 0 ∷ 0 ∷ 0 ∷ (from ++ (to ++ 0 ∷ 0 ∷ 0 ∷ 0 ∷ 0 ∷ 0 ∷ 0 ∷ 0 ∷ []))

-- ---- the steps

abbrev pub config : Config
config = usual_config default_params None

abbrev pub joins : End → StationState → Step
joins end s = record {
  station = end;
  input = FromHost (Joined 1 Agw);
  before = s;
  after = joining 1 Agw (begin s);
  turn = refl;
  octets = tt;
}

abbrev pub takes : StationState → List ℕ → Turn
takes s octets = taking 1 octets (begin s)

abbrev pub answers : StationState → List ℕ → Turn
answers s octets = answering_else 1 (message_of octets []) (takes s octets)

abbrev pub a_joins : Step
a_joins = joins A (new_station config 1)

abbrev pub b_joins : Step
b_joins = joins B (new_station config 2)

abbrev pub a_registers : Step
unfolding reading
a_registers =
    let octets = header 88 (field 65) (field 0) in
    let after = answers a_joins.after.now octets in record {
      station = A;
      input = FromHost (Bytes 1 octets);
      before = a_joins.after.now;
      after = after;
      turn = (after, (after, refl, refl), refl);
      octets = tt;
    }

abbrev pub b_registers : Step
unfolding reading
b_registers =
    let octets = header 88 (field 66) (field 0) in
    let after = answers b_joins.after.now octets in record {
      station = B;
      input = FromHost (Bytes 1 octets);
      before = b_joins.after.now;
      after = after;
      turn = (after, (after, refl, refl), refl);
      octets = tt;
    }

-- another host of B sets TXDELAY 0 and full duplex
abbrev pub b_joins_again : Step
b_joins_again = record {
  station = B;
  input = FromHost (Joined 2 Kiss);
  before = b_registers.after.now;
  after = joining 2 Kiss (begin b_registers.after.now);
  turn = refl;
  octets = tt;
}

abbrev pub sets : List ℕ
sets = 0xc0 ∷ 1 ∷ 0 ∷ 0xc0 ∷ 5 ∷ 1 ∷ 0xc0 ∷ []

abbrev pub after_setting : Turn
after_setting =
    changing (with_param (FullDuplex true)) (changing (with_param (TxDelay 0))
    (taking 2 sets (begin b_joins_again.after.now)))

pub is_setting : IsTurn (FromHost (Bytes 2 sets)) (begin b_joins_again.after.now) after_setting
unfolding reading call_of_text items_in is_web_request has_web_beginning
is_setting = refl

abbrev pub b_sets : Step
b_sets = record {
  station = B;
  input = FromHost (Bytes 2 sets);
  before = b_joins_again.after.now;
  after = after_setting;
  turn = is_setting;
  octets = tt;
}

abbrev pub route : Route
route = record { local = aaaa; remote = bbbb; repeaters = [] }

abbrev pub a_calls : Step
unfolding reading call_of_text
a_calls =
    let octets = header 67 (field 65) (field 66) in
    let before = a_registers.after.now in
    let after = event_at 0 LinkConnect (making 0 1 no_layer_3 aaaa bbbb (path_along route) (takes before octets)) in
    record {
      station = A;
      input = FromHost (Bytes 1 octets);
      before = before;
      after = after;
      turn = (after, (after, (0, first_key before.links refl tt, refl), refl), refl);
      octets = tt;
    }

abbrev pub shown : Path → List ℕ → Frame → StationState → Turn
shown path octets frame s = shown_to_hosts (Some path) octets (Some frame) (begin s)

abbrev pub hearing :
    (end : End) (s : StationState) (path : Path) (octets : List ℕ) (frame : Frame) (between : Turn)
    → BeginsWithPath octets path 14 → IsReadAs (heard_modulus (Some path) s.links) octets (Some frame)
    → IsHeardBy (Some path) octets (shown path octets frame s) between → IsOurs (Some path) octets s true
    → All (λ octet. octet < 256) octets → Step
hearing end s path octets frame between begins read effect ours few = record {
  station = end;
  input = OffAir octets;
  before = s;
  after = noting (Some path) true between;
  turn = record {
    path = Some path;
    reading = (14, begins);
    monitored = Some frame;
    read_as = read;
    between = between;
    effect = effect;
    ours = true;
    is_ours = ours;
    told = refl;
  };
  octets = few;
}

abbrev pub b_hears_sabm : Step
unfolding reading call_of_text
b_hears_sabm =
    let before = b_sets.after.now in
    let made = making 0 1 no_layer_3 bbbb aaaa (way_back command_path Command)
    (shown command_path sabm sabm_frame before) in
    hearing B before command_path sabm sabm_frame (event_at 0 (LinkHear sabm_frame) made) (command_begins 63) sabm_is
    (Some sabm_frame, sabm_is, (0, first_key before.links refl tt, refl))
    (Some sabm_frame, sabm_is, refl) (low sabm refl)

abbrev pub a_hears_ua : Step
unfolding reading call_of_text link_turn
a_hears_ua =
    let before = a_calls.after.now in
    hearing A before response_path ua ua_frame (event_at 0 (LinkHear ua_frame) (shown response_path ua ua_frame before))
    (response_begins 115) ua_is (Some ua_frame, ua_is, refl) (Some ua_frame, ua_is, refl) (low ua refl)

-- B's host gives one octet
abbrev pub b_gives : Step
unfolding reading call_of_text link_turn
b_gives =
    let octets = 0 ∷ 0 ∷ 0 ∷ 0 ∷ 68 ∷ 0 ∷ 240 ∷ 0
    ∷ (field 66 ++ (field 65 ++ 1 ∷ 0 ∷ 0 ∷ 0 ∷ 0 ∷ 0 ∷ 0 ∷ 0 ∷ 104 ∷ [])) in
    let before = b_hears_sabm.after.now in
    let after = answering_else 1 (message_of octets (104 ∷ [])) (takes before octets) in record {
      station = B;
      input = FromHost (Bytes 1 octets);
      before = before;
      after = after;
      turn = (after, (after, refl, refl), refl);
      octets = tt;
    }

-- the state of a station after a tick in which it hears nothing, and names no frame as sent
abbrev pub next : StationState → StationState
next s = (ticking false None (begin s)).now

abbrev pub tick : (s : StationState) → (air_of false s).sent ≡ None → Step
tick s silent = record {
  station = B;
  input = OfClock false;
  before = s;
  after = ticking false None (begin s);
  turn = record {
    monitored = None;
    read_as =
        subst (λ (sent : Option Sent). IsSentFrame sent (asked_links false (begin s)).now.links None) (sym silent)
        refl;
    effect = refl;
  };
  octets = tt;
}

-- so many ticks one after another
abbrev pub NameNone : ℕ → StationState → Type 0
NameNone zero s = ⊤
NameNone (suc count) s = ((air_of false s).sent ≡ None) × NameNone count (next s)

abbrev pub ticks_of : (count : ℕ) → (s : StationState) → NameNone count s → List Step
ticks_of zero s silent = []
ticks_of (suc count) s silent = tick s silent.0 ∷ ticks_of count (next s) silent.1

-- the UA goes on the air, and names no frame for thirteen ticks
pub names_none : NameNone 13 b_gives.after.now
unfolding reading call_of_text link_turn ticking_links first_wanting frames_end flag_end bits_of body_by piece frame_bits
    with_fcs fcs_of octet_bits frame_octets missing
names_none =
    (refl, (refl, (refl, (refl, (refl, (refl, (refl, (refl, (refl, (refl, (refl, (refl, (refl, tt)))))))))))))

-- with the last of them it ends, and the I frame is queued
abbrev pub ticks : List Step
ticks = ticks_of 13 b_gives.after.now names_none

abbrev pub a_hears_info : Step
unfolding reading call_of_text link_turn ahead
a_hears_info =
    let before = a_hears_ua.after.now in
    hearing A before back_path info info_frame (event_at 0 (LinkHear info_frame)
    (shown back_path info info_frame before))
    info_begins info_is (Some info_frame, info_is, refl) (Some info_frame, info_is, refl) (low info refl)

-- ---- the run

abbrev pub first_steps : List Step
first_steps =
    a_joins ∷ b_joins ∷ a_registers ∷ b_registers ∷ b_joins_again ∷ b_sets ∷ a_calls ∷ b_hears_sabm ∷ a_hears_ua
    ∷ b_gives ∷ []

abbrev pub steps : List Step
steps = first_steps ++ (ticks ++ a_hears_info ∷ [])

run_append : (first rest : List Step) (s : Stations) → IsJointRun s first → IsJointRun (all_stepped first s) rest
    → IsJointRun s (first ++ rest)
run_append [] rest s h k = k
run_append (step ∷ first) rest s h k = (h.0, run_append first rest (stepped step s) h.1 k)

ticks_run : (count : ℕ) (a b : StationState) (silent : NameNone count b)
    → IsJointRun (record { a = a; b = b }) (ticks_of count b silent)
ticks_run zero a b silent = tt
ticks_run (suc count) a b silent = (refl, ticks_run count a (next b) silent.1)

is_run : IsJointRun (new_stations config 1 config 2) steps
unfolding a_registers b_registers a_calls b_hears_sabm a_hears_ua b_gives a_hears_info
is_run =
    run_append first_steps (ticks ++ a_hears_info ∷ []) (new_stations config 1 config 2)
    (refl, (refl, (refl, (refl, (refl, (refl, (refl, (refl, (refl, (refl, tt))))))))))
    (run_append ticks (a_hears_info ∷ []) (all_stepped first_steps (new_stations config 1 config 2))
    (ticks_run 13 a_hears_ua.after.now b_gives.after.now names_none) (refl, tt))

abbrev pub calls : Calls
calls = record { a = aaaa; b = bbbb }

-- B hears SABM, and A hears UA and the I frame
abbrev pub pairs : Pairs
pairs = record {
  at_a = record { heard = 8; sent = 0 } ∷ record { heard = 23; sent = 1 } ∷ [];
  at_b = record { heard = 7; sent = 0 } ∷ [];
}

-- the SABM entered a quiet channel
is_quiet_run : IsQuietLink calls pairs default_params default_params steps
unfolding reading call_of_text link_turn ahead is_web_request has_web_beginning ticking_links first_wanting frames_end flag_end bits_of body_by piece frame_bits
    with_fcs fcs_of octet_bits frame_octets missing
is_quiet_run = (
  refl,
  (
    refl,
    (
      refl,
      (
        refl,
        (
          refl,
          (
            refl,
            (
              refl,
              (
                refl,
                (
                  refl,
                  (
                    refl,
                    (
                      refl,
                      (
                        refl,
                        (
                          refl,
                          (
                            refl,
                            (
                              refl,
                              (
                                refl,
                                (refl, (refl, (refl, (refl, (refl, tt))))),
                              ),
                            ),
                          ),
                        ),
                      ),
                    ),
                  ),
                ),
              ),
            ),
          ),
        ),
      ),
    ),
  ),
)

-- ---- what is heard

no_pairs_rise : AllPairs RiseBoth []
no_pairs_rise = λ i j d less within. absurd (omega (arith, less, within))

one_rise : (p : Pair) → AllPairs RiseBoth (p ∷ [])
one_rise p = AllPairs-cons RiseBoth p [] (All-from_recursion (RiseBoth p) [] tt) no_pairs_rise

two_rise : (p q : Pair) → RiseBoth p q → AllPairs RiseBoth (p ∷ q ∷ [])
two_rise p q h =
    AllPairs-cons RiseBoth p (q ∷ []) (All-from_recursion (RiseBoth p) (q ∷ []) (h, tt))
    (AllPairs-cons RiseBoth q [] (All-from_recursion (RiseBoth q) [] tt) no_pairs_rise)

same_some : (x y : Step) → Some x ≡ Some y → x ≡ y
same_some x y e = cc

a_is_not_b : A ≢ B
a_is_not_b e = cc

b_is_not_a : B ≢ A
b_is_not_a e = cc

same_sabm : AreAlikeButForH sabm sabm
same_sabm = record {
  len = 14;
  path_heard = command_path;
  path_sent = command_path;
  heard_begins = command_begins 63;
  sent_begins = command_begins 63;
  paths = refl;
  rest = refl;
}

same_ua : AreAlikeButForH ua ua
same_ua = record {
  len = 14;
  path_heard = response_path;
  path_sent = response_path;
  heard_begins = response_begins 115;
  sent_begins = response_begins 115;
  paths = refl;
  rest = refl;
}

same_info : AreAlikeButForH info info
same_info = record {
  len = 14;
  path_heard = back_path;
  path_sent = back_path;
  heard_begins = info_begins;
  sent_begins = info_begins;
  paths = refl;
  rest = refl;
}

b_hears_first : HearsLinkFrame B b_hears_sabm sabm
unfolding reading call_of_text link_turn
b_hears_first = record { station = refl; input = refl; event = λ e. cc }

first_pair : IsHeardPair B steps (record { heard = 7; sent = 0 })
unfolding reading call_of_text link_turn frame_octets ahead
first_pair = record {
  step = b_hears_sabm;
  octets = sabm;
  queued = sabm;
  there = refl;
  hears = b_hears_first;
  before = refl;
  alike = same_sabm;
}

has_itself : (ps : List Pair) (k : ℕ) (p d : Pair) → All (Contains ps) ps → k < length ps → p ≡ get_or ps k d
    → HasPair ps p.heard
has_itself ps k p d all within is = record {
  pair = p;
  contains = subst (Contains ps) (sym is) (all k d within);
  is = refl;
}

-- each of these steps, numbered from a number on, has its pair if it hears a frame of a link
abbrev HaveTheirPairs : End → List Pair → ℕ → List Step → Type 0
HaveTheirPairs end ps n [] = ⊤
HaveTheirPairs end ps n (step ∷ rest) =
    ((octets : List ℕ) → HearsLinkFrame end step octets → HasPair ps n) × HaveTheirPairs end ps (n + 1) rest

have_pairs :
    (end : End) (ps : List Pair) (n : ℕ) (run : List Step) → HaveTheirPairs end ps n run → (number : ℕ) (step : Step)
    (octets : List ℕ) → slice_get run number ≡ Some step → HearsLinkFrame end step octets → HasPair ps (n + number)
have_pairs end ps n [] h zero step octets is hears = absurd (cc)
have_pairs end ps n [] h (suc number) step octets is hears = absurd (cc)
have_pairs end ps n (s ∷ rest) h zero step octets is hears =
    let here : n ≡ n + 0 = omega arith in
    subst (HasPair ps) here
    (h.0 octets (subst (λ (x : Step). HearsLinkFrame end x octets) (sym (same_some s step is)) hears))
have_pairs end ps n (s ∷ rest) h (suc number) step octets is hears =
    let next : (n + 1) + number ≡ n + suc number = omega arith in
    subst (HasPair ps) next (have_pairs end ps (n + 1) rest h.1 number step octets is hears)

have_append :
    (end : End) (ps : List Pair) (n : ℕ) (first rest : List Step) → HaveTheirPairs end ps n first
    → HaveTheirPairs end ps (n + length first) rest → HaveTheirPairs end ps n (first ++ rest)
have_append end ps n [] rest h k =
    let here : n + 0 ≡ n = omega arith in subst (λ m. HaveTheirPairs end ps m rest) here k
have_append end ps n (s ∷ first) rest h k =
    let next : n + suc (length first) ≡ (n + 1) + length first = omega arith in
    (h.0, have_append end ps (n + 1) first rest h.1 (subst (λ m. HaveTheirPairs end ps m rest) next k))

-- steps of the clock hear nothing
abbrev HearsNothing : Step → Type 0
HearsNothing step = (octets : List ℕ) → IsOffAir step.input octets → ⊥

silent_have : (end : End) (ps : List Pair) (n : ℕ) (run : List Step) → Each HearsNothing run
    → HaveTheirPairs end ps n run
silent_have end ps n [] h = tt
silent_have end ps n (s ∷ run) h =
    ((λ octets hears. absurd (h.0 octets hears.input)), silent_have end ps (n + 1) run h.1)

ticks_silent : (count : ℕ) (s : StationState) (silent : NameNone count s)
    → Each HearsNothing (ticks_of count s silent)
ticks_silent zero s silent = tt
ticks_silent (suc count) s silent = ((λ octets off. off), ticks_silent count (next s) silent.1)

have_at_b : HaveTheirPairs B pairs.at_b 0 steps
unfolding reading call_of_text link_turn ahead
have_at_b =
    have_append B pairs.at_b 0 first_steps (ticks ++ a_hears_info ∷ []) (
      λ octets hears. absurd (a_is_not_b hears.station),
      (
        λ octets hears. absurd hears.input,
        (
          λ octets hears. absurd (a_is_not_b hears.station),
          (
            λ octets hears. absurd hears.input,
            (
              λ octets hears. absurd hears.input,
              (
                λ octets hears. absurd hears.input,
                (
                  λ octets hears. absurd (a_is_not_b hears.station),
                  (
                    λ octets hears. has_itself pairs.at_b 0 (record { heard = 7; sent = 0 }) (record { heard = 0; sent = 0 })
                        (All-contains_itself pairs.at_b) (omega arith) refl,
                    (
                      λ octets hears. absurd (a_is_not_b hears.station),
                      (λ octets hears. absurd hears.input, tt),
                    ),
                  ),
                ),
              ),
            ),
          ),
        ),
      ),
    )
    (have_append B pairs.at_b 10 ticks (a_hears_info ∷ []) (silent_have B pairs.at_b 10 ticks
    (ticks_silent 13 b_gives.after.now names_none))
    (λ octets hears. absurd (a_is_not_b hears.station), tt))

heard_at_b : AreHeardInOrder calls.b calls.a B steps pairs.at_b
heard_at_b = record {
  rise = one_rise (record { heard = 7; sent = 0 });
  each = All-from_recursion (IsHeardPair B steps) pairs.at_b (first_pair, tt);
  all = λ number step octets is hears.
      let same : 0 + number ≡ number = omega arith in
      subst (HasPair pairs.at_b) same (have_pairs B pairs.at_b 0 steps have_at_b number step octets is hears.link);
}

a_hears_first : HearsLinkFrame A a_hears_ua ua
unfolding reading call_of_text link_turn
a_hears_first = record { station = refl; input = refl; event = λ e. cc }

a_hears_second : HearsLinkFrame A a_hears_info info
unfolding reading call_of_text link_turn ahead
a_hears_second = record { station = refl; input = refl; event = λ e. cc }

first_answer : IsHeardPair A steps (record { heard = 8; sent = 0 })
unfolding reading call_of_text link_turn frame_octets ahead
first_answer = record {
  step = a_hears_ua;
  octets = ua;
  queued = ua;
  there = refl;
  hears = a_hears_first;
  before = refl;
  alike = same_ua;
}

data_pair : IsHeardPair A steps (record { heard = 23; sent = 1 })
unfolding reading call_of_text link_turn ahead ticking_links first_wanting frames_end flag_end bits_of body_by piece frame_bits
    with_fcs fcs_of octet_bits frame_octets missing
data_pair = record {
  step = a_hears_info;
  octets = info;
  queued = info;
  there = refl;
  hears = a_hears_second;
  before = refl;
  alike = same_info;
}

have_at_a : HaveTheirPairs A pairs.at_a 0 steps
unfolding reading call_of_text link_turn ahead
have_at_a =
    have_append A pairs.at_a 0 first_steps (ticks ++ a_hears_info ∷ []) (
      λ octets hears. absurd hears.input,
      (
        λ octets hears. absurd (b_is_not_a hears.station),
        (
          λ octets hears. absurd hears.input,
          (
            λ octets hears. absurd (b_is_not_a hears.station),
            (
              λ octets hears. absurd (b_is_not_a hears.station),
              (
                λ octets hears. absurd (b_is_not_a hears.station),
                (
                  λ octets hears. absurd hears.input,
                  (
                    λ octets hears. absurd (b_is_not_a hears.station),
                    (
                      λ octets hears. has_itself pairs.at_a 0 (record { heard = 8; sent = 0 }) (record { heard = 0; sent = 0 })
                          (All-contains_itself pairs.at_a) (omega arith) refl,
                      (λ octets hears. absurd (b_is_not_a hears.station), tt),
                    ),
                  ),
                ),
              ),
            ),
          ),
        ),
      ),
    )
    (have_append A pairs.at_a 10 ticks (a_hears_info ∷ []) (silent_have A pairs.at_a 10 ticks
    (ticks_silent 13 b_gives.after.now names_none)) (
      λ octets hears. has_itself pairs.at_a 1 (record { heard = 23; sent = 1 }) (record { heard = 0; sent = 0 })
          (All-contains_itself pairs.at_a) (omega arith) refl,
      tt,
    ))

heard_at_a : AreHeardInOrder calls.a calls.b A steps pairs.at_a
heard_at_a = record {
  rise = two_rise (record { heard = 8; sent = 0 }) (record { heard = 23; sent = 1 }) (omega arith, omega arith);
  each = All-from_recursion (IsHeardPair A steps) pairs.at_a (first_answer, (data_pair, tt));
  all = λ number step octets is hears.
      let same : 0 + number ≡ number = omega arith in
      subst (HasPair pairs.at_a) same (have_pairs A pairs.at_a 0 steps have_at_a number step octets is hears.link);
}

default_windows : HasWindows default_params
default_windows = ((omega arith, omega arith), (omega arith, omega arith))

fits : WindowsFit default_params default_params
fits = record {
  of_a = default_windows;
  of_b = default_windows;
  narrow = λ modes. elim modes [ inl e ↦ absurd (cc) | inr e ↦ absurd (cc) ];
  wide = λ modes. (omega arith, omega arith);
}

-- ---- the client

-- it sends nothing, and waits for more than it gets
abbrev pub plan : CallPlan
plan = record { own = aaaa; remote = bbbb; via = []; text = []; expect = 10 }

calls_valid : IsBetweenCalls plan
calls_valid = record { own = aaaa_valid; remote = bbbb_valid }

-- all that A has for it
abbrev pub stream : List ℕ
stream = octets_had 1 A steps

whole : IsFirstPart stream (octets_had 1 A steps)
whole = ([], sym (append-nil stream))

prints : printed_after plan stream ≡ 104 ∷ []
unfolding reading call_of_text link_turn spelling call_run ahead
prints = refl

one_is_some : (xs : List ℕ) (octet : ℕ) → xs ≡ octet ∷ [] → xs ≢ []
one_is_some xs octet is none = let e : octet ∷ [] ≡ [] = sym is ∙ none in cc

prints_some : printed_after plan stream ≢ []
prints_some = one_is_some (printed_after plan stream) 104 prints

abbrev SpeaksHere : Connection → Type 0
SpeaksHere c = c.id ≡ 1 → c.kind ≡ Agw

abbrev IsOfA : Step → Type 0
IsOfA step = step.station ≡ A → IsClientStep 1 step

ticks_of_b : (count : ℕ) (s : StationState) (silent : NameNone count s)
    → Each (λ (step : Step). step.station ≡ B) (ticks_of count s silent)
ticks_of_b zero s silent = tt
ticks_of_b (suc count) s silent = (refl, ticks_of_b count (next s) silent.1)

client_steps : Each IsOfA steps
unfolding reading call_of_text link_turn ahead
client_steps =
    each_append IsOfA first_steps (ticks ++ a_hears_info ∷ []) (
      λ same. record { speaks = All-from_recursion SpeaksHere [] tt; stays = tt },
      (
        λ same. absurd (b_is_not_a same),
        (
          λ same. record { speaks = All-from_recursion SpeaksHere a_joins.after.now.connections (λ e. refl, tt); stays = All-from_recursion (λ n. n ≢ 1) [] tt },
          (
            λ same. absurd (b_is_not_a same),
            (
              λ same. absurd (b_is_not_a same),
              (
                λ same. absurd (b_is_not_a same),
                (
                  λ same. record { speaks = All-from_recursion SpeaksHere a_registers.after.now.connections (λ e. refl, tt); stays = All-from_recursion (λ n. n ≢ 1) [] tt },
                  (
                    λ same. absurd (b_is_not_a same),
                    (
                      λ same. record { speaks = All-from_recursion SpeaksHere a_calls.after.now.connections (λ e. refl, tt); stays = tt },
                      (λ same. absurd (b_is_not_a same), tt),
                    ),
                  ),
                ),
              ),
            ),
          ),
        ),
      ),
    )
    (each_append IsOfA ticks (a_hears_info ∷ [])
    (each_weaker (λ (step : Step). step.station ≡ B) IsOfA (λ step b same. absurd (b_is_not_a (sym b ∙ same))) ticks
    (ticks_of_b 13 b_gives.after.now names_none)) (
      λ same. record {
        speaks = All-from_recursion SpeaksHere a_hears_ua.after.now.connections (λ e. refl, tt);
        stays = tt;
      },
      tt,
    ))

abbrev IsShort : Piece → Type 0
IsShort piece = length piece.octets < 0x100000000

each_short : (pieces : List Piece)
    → list_all (λ (piece : Piece). nat_lt (length piece.octets) 0x100000000) pieces ≡ true → Each IsShort pieces
each_short [] h = tt
each_short (piece ∷ pieces) h =
    let both = and_parts (nat_lt (length piece.octets) 0x100000000)
    (list_all (λ (p : Piece). nat_lt (length p.octets) 0x100000000) pieces) h in
    (ltb-true (length piece.octets) 0x100000000 both.0, each_short pieces both.1)

short_pieces : Each IsShort (pieces_for 1 (pieces_at A steps))
unfolding reading call_of_text link_turn spelling ahead
short_pieces = each_short (pieces_for 1 (pieces_at A steps)) refl

client : IsClientOf 1 A steps
client = record {
  each = All-from_recursion IsOfA steps client_steps;
  short = All-from_recursion IsShort (pieces_for 1 (pieces_at A steps)) short_pieces;
}

-- ---- so the law speaks of this call

speaks : CallLaw → PrintsGiven (world_of calls pairs default_params default_params steps) (printed_after plan stream)
speaks law =
    law config config 1 2 steps A plan pairs is_run heard_at_a heard_at_b fits calls_valid is_quiet_run 1 client stream
    whole prints_some
