-- A third station on the same channel: in the middle of the worked run CCCC calls BBBB too, so that B has a second link
-- and answers on it. Not all that links hear was sent by the two stations then, but what the link of AAAA and BBBB
-- hears was, and the laws speak of that link.
use Rattle.station_laws.proofs.Common.{◌≡◌, ℕ, inl, arith, All-from_recursion, false≢true, sym, ◌∙◌, ap, Callsign}
use Rattle.station_laws.proofs.Common.{IsCallCharacter, BeginsWithPath, way_back, Path, Command, Frame, Setup, Eight}
use Rattle.station_laws.proofs.Common.{Sabm, IsFrame, reading, A, B, changes_law_holds, event_at, making, no_layer_3}
use Rattle.station_laws.proofs.Common.{call_of_text, frame_octets, Step, new_stations, IsJointRun, all_stepped}
use Rattle.station_laws.proofs.Common.{link_at_end, steps_of, Pairs, Moment, AreMatched, AreMatchedFor, AreQuietFor}
use Rattle.station_laws.proofs.Common.{nothing_sent, steps_in, Steps, HearsFrameOf, is_from_to, queued_at}
use Rattle.station_laws.proofs.Common.{IsEventOfCaller, OnlyACalls, pairs_in, LinkKeepsOrder}
use Rattle.std.specs.Prelude.{true, false, List, [], ◌∷◌, length, Some, None, refl}
use Rattle.ax25_address.specs.Callsign.{IsCall}
use Rattle.link_machine.specs.Event.Event.{Hear as LinkHear}
use Rattle.link_machine.specs.Step.{step as link_turn}
use Rattle.station_laws.proofs.ExampleOrder.{fits}
use Rattle.station_laws.proofs.Examples.{aaaa, bbbb, bbbb_valid, path_in, low, shown, hearing, config, calls, sabm, disc}
use Rattle.station_laws.proofs.NewKeys.{second_key}
use Rattle.station_laws.proofs.Examples.{ua, disc_frame, disc_is, command_path, command_begins, a_joins, b_joins}
use Rattle.station_laws.proofs.Examples.{a_registers, b_registers, a_calls, b_hears_sabm, a_hears_ua, a_disconnects}
use Rattle.station_laws.proofs.Examples.{a_hears_ua_again}
use Rattle.station_laws.proofs.Framed.{one_framed}
use Rattle.station_laws.proofs.MatchedLaws.{matched_law_holds}

abbrev cccc : Callsign
cccc = record { name = 67 ∷ 67 ∷ 67 ∷ 67 ∷ []; ssid = 0 }

cccc_valid : IsCall cccc
cccc_valid = record {
  name = record {
    shortest = omega arith;
    longest = omega arith;
    characters = All-from_recursion IsCallCharacter (67 ∷ 67 ∷ 67 ∷ 67 ∷ []) (
      inl (omega arith, omega arith),
      (
        inl (omega arith, omega arith),
        (inl (omega arith, omega arith), (inl (omega arith, omega arith), tt)),
      ),
    );
  };
  ssid = omega arith;
}

-- ---- the third station's SABM

abbrev third : List ℕ
third = 132 ∷ 132 ∷ 132 ∷ 132 ∷ 64 ∷ 64 ∷ 224 ∷ 134 ∷ 134 ∷ 134 ∷ 134 ∷ 64 ∷ 64 ∷ 97 ∷ 63 ∷ []

abbrev third_path : Path
third_path = path_in cccc bbbb Command

abbrev third_frame : Frame
third_frame = record { path = third_path; kind = Setup Sabm true }

third_begins : BeginsWithPath third third_path 14
third_begins = (
  omega arith,
  record {
    count = omega arith;
    size = refl;
    destination = record { valid = bbbb_valid; reserved = 3; two_bits = omega arith; spelling = refl };
    source = record { valid = cccc_valid; reserved = 3; two_bits = omega arith; spelling = refl };
    repeaters = λ k d below. absurd (omega arith);
  },
)

third_is : IsFrame third_frame Eight third
third_is = record { len = 14; path = third_begins; kind = record { numbered = tt; fits = tt }; body = refl }

abbrev b_hears_third : Step
unfolding reading call_of_text link_turn
b_hears_third =
    let before = b_hears_sabm.after.now in
    let made = making 1 1 no_layer_3 bbbb cccc (way_back third_path Command)
    (shown third_path third third_frame before) in
    hearing B before third_path third third_frame (event_at 1 (LinkHear third_frame) made) third_begins third_is
    (Some third_frame, third_is, (1, second_key before.links refl refl tt, refl))
    (Some third_frame, third_is, refl) (low third refl)

abbrev b_hears_disc : Step
unfolding reading call_of_text link_turn
b_hears_disc =
    let before = b_hears_third.after.now in
    hearing B before command_path disc disc_frame
    (event_at 0 (LinkHear disc_frame) (shown command_path disc disc_frame before)) (command_begins 83) disc_is
    (Some disc_frame, disc_is, refl) (Some disc_frame, disc_is, refl) (low disc refl)

-- ---- the run

-- what the third station sent is matched with nothing
abbrev moments : List Moment
moments =
    Steps a_joins None ∷ Steps b_joins None ∷ Steps a_registers None ∷ Steps b_registers None ∷ Steps a_calls None
    ∷ Steps b_hears_sabm (Some 0) ∷ Steps b_hears_third None ∷ Steps a_hears_ua (Some 0) ∷ Steps a_disconnects None
    ∷ Steps b_hears_disc (Some 1) ∷ Steps a_hears_ua_again (Some 2) ∷ []

abbrev steps : List Step
steps = steps_in moments

is_run : IsJointRun (new_stations config 1 config 2) steps
unfolding reading call_of_text link_turn
is_run = (refl, (refl, (refl, (refl, (refl, (refl, (refl, (refl, (refl, (refl, (refl, tt)))))))))))

-- B answers both; the UA to the third station is the second of three frames, and no pair names it
three_frames : length (queued_at B steps) ≡ 3
unfolding reading call_of_text link_turn frame_octets
three_frames = refl

the_pairs : pairs_in moments ≡ (let pairs : Pairs = record {
  at_a = record { heard = 7; sent = 0 } ∷ record { heard = 10; sent = 2 } ∷ [];
  at_b = record { heard = 5; sent = 0 } ∷ record { heard = 9; sent = 1 } ∷ [];
} in pairs)
unfolding reading call_of_text link_turn
the_pairs = refl

-- not all that links hear was sent by the two stations
not_all_matched : AreMatched moments nothing_sent → ⊥
unfolding reading call_of_text link_turn frame_octets
not_all_matched h = h.1.1.1.1.1.1.0

-- its frame is one between other calls
other_calls : (octets : List ℕ) → HearsFrameOf bbbb aaaa B b_hears_third octets → ⊥
unfolding reading call_of_text link_turn b_hears_third
other_calls octets hears =
    let same : third ≡ octets = hears.link.input in
    let none : is_from_to aaaa bbbb third ≡ false = refl in
    false≢true (sym none ∙ ap (is_from_to aaaa bbbb) same ∙ hears.calls)

are_matched : AreMatchedFor calls moments nothing_sent
unfolding reading call_of_text link_turn frame_octets
are_matched = (
  λ octets hears. hears.link.input,
  (
    λ octets hears. hears.link.input,
    (
      λ octets hears. hears.link.input,
      (
        λ octets hears. hears.link.input,
        (
          λ octets hears. hears.link.input,
          (
            record { ahead = omega arith; frame = one_framed false sabm; is_there = refl; same = refl },
            (
              other_calls,
              (
                record { ahead = omega arith; frame = one_framed true ua; is_there = refl; same = refl },
                (
                  λ octets hears. hears.link.input,
                  (
                    record { ahead = omega arith; frame = one_framed false disc; is_there = refl; same = refl },
                    (
                      record { ahead = omega arith; frame = one_framed true ua; is_there = refl; same = refl },
                      tt,
                    ),
                  ),
                ),
              ),
            ),
          ),
        ),
      ),
    ),
  ),
)

-- The DISC finds a quiet channel: the UA to the third station, which nobody here hears, is none of this link.
is_quiet : AreQuietFor calls moments nothing_sent
unfolding reading call_of_text link_turn frame_octets
is_quiet = (
  tt,
  (tt, (tt, (tt, ((refl, tt), ((refl, tt), ((refl, tt), (tt, ((refl, tt), ((refl, tt), (tt, tt)))))))))),
)

only_a : OnlyACalls calls steps
unfolding reading call_of_text link_turn
only_a = (
  All-from_recursion (IsEventOfCaller A) (steps_of (link_at_end calls A) a_joins) tt,
  (
    All-from_recursion (IsEventOfCaller B) (steps_of (link_at_end calls B) b_joins) tt,
    (
      All-from_recursion (IsEventOfCaller A) (steps_of (link_at_end calls A) a_registers) tt,
      (
        All-from_recursion (IsEventOfCaller B) (steps_of (link_at_end calls B) b_registers) tt,
        (
          All-from_recursion (IsEventOfCaller A) (steps_of (link_at_end calls A) a_calls) (refl, tt),
          (
            All-from_recursion (IsEventOfCaller B) (steps_of (link_at_end calls B) b_hears_sabm) (tt, tt),
            (
              All-from_recursion (IsEventOfCaller B) (steps_of (link_at_end calls B) b_hears_third) tt,
              (
                All-from_recursion (IsEventOfCaller A) (steps_of (link_at_end calls A) a_hears_ua) (refl, tt),
                (
                  All-from_recursion (IsEventOfCaller A) (steps_of (link_at_end calls A) a_disconnects) (tt, tt),
                  (
                    All-from_recursion (IsEventOfCaller B) (steps_of (link_at_end calls B) b_hears_disc) (tt, tt),
                    (
                      All-from_recursion (IsEventOfCaller A) (steps_of (link_at_end calls A) a_hears_ua_again) (refl, tt),
                      tt,
                    ),
                  ),
                ),
              ),
            ),
          ),
        ),
      ),
    ),
  ),
)

keeps_order : LinkKeepsOrder calls (pairs_in moments) config config steps
    (all_stepped steps (new_stations config 1 config 2))
keeps_order = matched_law_holds changes_law_holds config config 1 2 moments calls is_run are_matched is_quiet fits
    only_a
