-- The law on two stations of which only one calls, over a run with its matches.
use Rattle.station_laws.proofs.Common.{ℕ, List, [], ◌∷◌, refl, arith, recursion_from_All, ChangesLaw, WindowsFit}
use Rattle.station_laws.proofs.Common.{Config, Moment, AreMatchedFor, AreQuietFor, nothing_sent, steps_in, Step}
use Rattle.station_laws.proofs.Common.{new_stations, IsJointRun, Calls, IsQuietLink, link_at_end, path_between}
use Rattle.station_laws.proofs.Common.{first_world, steps_of, IsEventOfCaller, OnlyACalls, pairs_in}
use Rattle.station_laws.specs.MatchedLaw.{MatchedLaw}
use Rattle.station_laws.proofs.JointLaw.{stations_law_holds, new_run_holds}
use Rattle.station_laws.proofs.MatchedOrder.{matched_in_order_holds}
use Rattle.station_laws.proofs.QuietJoint.{EventsHold, quiet_run}

events_hold : (calls : Calls) (steps : List Step) → OnlyACalls calls steps → EventsHold calls steps
events_hold calls [] h = tt
events_hold calls (step ∷ steps) h = (
  recursion_from_All (IsEventOfCaller step.station) (steps_of (link_at_end calls step.station) step) h.0,
  events_hold calls steps h.1,
)

-- the link of two calls is quiet
quiet_link :
    (a b : Config) (seed_a seed_b : ℕ) (moments : List Moment) (calls : Calls) → ChangesLaw
    → WindowsFit a.params b.params
    → IsJointRun (new_stations a seed_a b seed_b) (steps_in moments) → AreMatchedFor calls moments nothing_sent
    → AreQuietFor calls moments nothing_sent → OnlyACalls calls (steps_in moments)
    → IsQuietLink calls (pairs_in moments) a.params b.params (steps_in moments)
quiet_link a b seed_a seed_b moments calls law fit run matched quiet holds =
    let order = matched_in_order_holds moments calls matched in
    let start = first_world calls a.params b.params in
    quiet_run calls (pairs_in moments) a.params b.params (new_stations a seed_a b seed_b) [] (steps_in moments)
    (record { a = 0; b = 0 }) start nothing_sent moments order.0 order.1 (record {
      run = new_run_holds a b seed_a seed_b (steps_in moments) calls (pairs_in moments) run order.0 order.1;
      queued_a = refl;
      queued_b = refl;
      fits = record { of_a = omega arith; of_b = omega arith };
      before_a = [];
      before_b = [];
      split_a = refl;
      split_b = refl;
      past_a = tt;
      past_b = tt;
      matched = matched;
      quiet = quiet;
      holds = events_hold calls (steps_in moments) holds;
      asks = record { few = omega arith; up = λ is. refl; unasked = refl; unanswered = refl; marked = tt };
      start = start;
      law = λ changes calm. (law (path_between calls.a calls.b) (path_between calls.b calls.a)
          a.params b.params fit changes calm).numbers;
      so_far = [];
      world_is = refl;
      quiet_so_far = tt;
      calm = record { state = tt; quit = refl };
    })

pub matched_law_holds : ChangesLaw → MatchedLaw
matched_law_holds law a b seed_a seed_b moments calls run matched quiet fit holds =
    let order = matched_in_order_holds moments calls matched in
    stations_law_holds law a b seed_a seed_b (steps_in moments) calls (pairs_in moments) run order.0 order.1 fit
    (quiet_link a b seed_a seed_b moments calls law fit run matched quiet holds)
