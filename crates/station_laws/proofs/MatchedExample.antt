-- The worked joint run with its matches: each heard frame was in flight, and SABM and DISC found a quiet channel, so
-- that the law over matched runs speaks of it. A DISC that follows the SABM at once would find no quiet channel.
use Rattle.station_laws.proofs.Common.{arith, All-from_recursion, reading, A, B, changes_law_holds, call_of_text}
use Rattle.station_laws.proofs.Common.{frame_octets, Moment, AreMatched, AreQuietThrough, nothing_sent, steps_in, Steps}
use Rattle.station_laws.proofs.Common.{Passes, new_stations, all_stepped, link_at_end, steps_of, IsEventOfCaller}
use Rattle.station_laws.proofs.Common.{OnlyACalls, pairs_in, LinkKeepsOrder}
use Rattle.std.specs.Prelude.{◌≡◌, true, false, List, [], ◌∷◌, Some, None, refl}
use Rattle.link_machine.specs.Step.{step as link_turn}
use Rattle.station_laws.specs.InFlight.{is_quiet_at, after_moments}
use Rattle.station_laws.proofs.EachLink.{matched_for_each, quiet_for_each}
use Rattle.station_laws.proofs.ExampleOrder.{fits}
use Rattle.station_laws.proofs.Examples.{sabm, disc, ua, a_joins, b_joins, a_registers, b_registers, a_calls}
use Rattle.station_laws.proofs.Examples.{b_hears_sabm, a_hears_ua, a_disconnects, b_hears_disc, a_hears_ua_again}
use Rattle.station_laws.proofs.Examples.{config, steps, calls, pairs, is_run}
use Rattle.station_laws.proofs.Framed.{one_framed}
use Rattle.station_laws.proofs.MatchedLaws.{matched_law_holds}

-- what B heard first has passed before A answers
abbrev moments : List Moment
moments =
    Steps a_joins None ∷ Steps b_joins None ∷ Steps a_registers None ∷ Steps b_registers None ∷ Steps a_calls None
    ∷ Steps b_hears_sabm (Some 0) ∷ Passes A 1 ∷ Steps a_hears_ua (Some 0) ∷ Steps a_disconnects None
    ∷ Steps b_hears_disc (Some 1) ∷ Steps a_hears_ua_again (Some 1) ∷ []

same_steps : steps_in moments ≡ steps
same_steps = refl

same_pairs : pairs_in moments ≡ pairs
unfolding reading call_of_text link_turn
same_pairs = refl

are_matched : AreMatched moments nothing_sent
unfolding reading call_of_text link_turn frame_octets
are_matched = (
  refl,
  (
    refl,
    (
      refl,
      (
        refl,
        (
          refl,
          (
            record { ahead = omega arith; frame = one_framed false sabm; is_there = refl; same = refl },
            (
              omega arith,
              (
                record { ahead = omega arith; frame = one_framed true ua; is_there = refl; same = refl },
                (
                  refl,
                  (
                    record { ahead = omega arith; frame = one_framed false disc; is_there = refl; same = refl },
                    (
                      record { ahead = omega arith; frame = one_framed true ua; is_there = refl; same = refl },
                      tt,
                    ),
                  ),
                ),
              ),
            ),
          ),
        ),
      ),
    ),
  ),
)

is_quiet : AreQuietThrough moments nothing_sent
unfolding reading call_of_text link_turn frame_octets
is_quiet = (
  tt,
  (tt, (tt, (tt, ((refl, tt), ((refl, tt), (tt, (tt, ((refl, tt), ((refl, tt), (tt, tt)))))))))),
)

-- a DISC in place of what A hears finds its own SABM, and then the UA, in flight
too_early : is_quiet_at A disc (after_moments (Steps a_calls None ∷ []) nothing_sent) ≡ false
unfolding reading call_of_text link_turn frame_octets
too_early = refl

answer_under_way :
    is_quiet_at A disc (after_moments (Steps a_calls None ∷ Steps b_hears_sabm (Some 0) ∷ []) nothing_sent) ≡ false
unfolding reading call_of_text link_turn frame_octets
answer_under_way = refl

answer_passed :
    is_quiet_at A disc (after_moments (Steps a_calls None ∷ Steps b_hears_sabm (Some 0) ∷ Passes B 1 ∷ []) nothing_sent)
    ≡ true
unfolding reading call_of_text link_turn frame_octets
answer_passed = refl

only_a : OnlyACalls calls steps
unfolding reading call_of_text link_turn
only_a = (
  All-from_recursion (IsEventOfCaller A) (steps_of (link_at_end calls A) a_joins) tt,
  (
    All-from_recursion (IsEventOfCaller B) (steps_of (link_at_end calls B) b_joins) tt,
    (
      All-from_recursion (IsEventOfCaller A) (steps_of (link_at_end calls A) a_registers) tt,
      (
        All-from_recursion (IsEventOfCaller B) (steps_of (link_at_end calls B) b_registers) tt,
        (
          All-from_recursion (IsEventOfCaller A) (steps_of (link_at_end calls A) a_calls) (refl, tt),
          (
            All-from_recursion (IsEventOfCaller B) (steps_of (link_at_end calls B) b_hears_sabm) (tt, tt),
            (
              All-from_recursion (IsEventOfCaller A) (steps_of (link_at_end calls A) a_hears_ua) (refl, tt),
              (
                All-from_recursion (IsEventOfCaller A) (steps_of (link_at_end calls A) a_disconnects) (tt, tt),
                (
                  All-from_recursion (IsEventOfCaller B) (steps_of (link_at_end calls B) b_hears_disc) (tt, tt),
                  (
                    All-from_recursion (IsEventOfCaller A) (steps_of (link_at_end calls A) a_hears_ua_again) (refl, tt),
                    tt,
                  ),
                ),
              ),
            ),
          ),
        ),
      ),
    ),
  ),
)

keeps_order : LinkKeepsOrder calls (pairs_in moments) config config steps
    (all_stepped steps (new_stations config 1 config 2))
keeps_order = matched_law_holds changes_law_holds config config 1 2 moments calls is_run
    (matched_for_each calls moments nothing_sent are_matched) (quiet_for_each calls moments nothing_sent is_quiet) fits only_a
