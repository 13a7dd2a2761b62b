-- The moments that a bench notes are a joint run of its stations, in which each SABM, SABME and DISC found a quiet
-- channel.
use Rattle.channel_bench.proofs.Common.{◌≡◌, ℕ, ◌+◌, Bool, true, false, List, [], ◌∷◌, ◌++◌, cond, Option, Some, None}
use Rattle.channel_bench.proofs.Common.{refl, sym, ap, ◌∙◌, subst, End, BenchWords, IsNoted, first_stations, Near}
use Rattle.channel_bench.proofs.Common.{IsStep, first_unquiet, trouble_of, count_of, Moment, BothWays, after_moment}
use Rattle.channel_bench.proofs.Common.{after_moments, hears_ask, hearing_at, is_quiet_at, nothing_sent, queueing_at}
use Rattle.channel_bench.proofs.Common.{steps_in, Steps, Passes, Input, Step, Stations, all_stepped, state_of}
use Rattle.channel_bench.proofs.Common.{with_state}
use Rattle.station_laws.specs.InFlight.{AreQuietAt, AreQuietThrough, IsQuietIn}
use Rattle.station_laws.specs.JointRun.{IsJointRun, stepped}
use Rattle.channel_bench.proofs.CoreRun.{KeptByCore, input_of, told_station}
use Rattle.station_laws.proofs.Growing.{all_stepped_more, joint_more}

-- ---- moments

pub steps_more :
    (moments : List Moment) (step : Step) (matched : Option ℕ)
    → steps_in (moments ++ Steps step matched ∷ []) ≡ steps_in moments ++ step ∷ []
steps_more [] step matched = refl
steps_more (Steps first m ∷ moments) step matched = ap (λ steps. first ∷ steps) (steps_more moments step matched)
steps_more (Passes sender below ∷ moments) step matched = steps_more moments step matched

pub steps_passed :
    (moments : List Moment) (sender : End) (below : ℕ)
    → steps_in (moments ++ Passes sender below ∷ []) ≡ steps_in moments
steps_passed [] sender below = refl
steps_passed (Steps first m ∷ moments) sender below = ap (λ steps. first ∷ steps) (steps_passed moments sender below)
steps_passed (Passes s b ∷ moments) sender below = steps_passed moments sender below

quiet_more :
    (moments : List Moment) (moment : Moment) (ways : BothWays) → AreQuietThrough moments ways
    → IsQuietIn moment (after_moments moments ways) → AreQuietThrough (moments ++ moment ∷ []) ways
quiet_more [] moment ways quiet next = (next, tt)
quiet_more (first ∷ moments) moment ways quiet next =
    (quiet.0, quiet_more moments moment (after_moment first ways) quiet.1 next)

-- what ended no run found a quiet channel
all_quiet :
    (sender : End) (on_ask : Bool) (queued : List (List ℕ)) (ways : BothWays)
    → trouble_of (first_unquiet sender on_ask queued ways) ≡ None → AreQuietAt sender on_ask queued ways
all_quiet sender on_ask [] ways none = tt
all_quiet sender on_ask (octets ∷ queued) ways none =
    go (is_quiet_at sender octets ways) refl none
    (λ calm. all_quiet sender on_ask queued (queueing_at sender on_ask octets ways) calm)
  where
    go : (b : Bool) → is_quiet_at sender octets ways ≡ b
        → trouble_of (cond b (first_unquiet sender on_ask queued (queueing_at sender on_ask octets ways))
        (Some (count_of ways + 1))) ≡ None
        → (trouble_of (first_unquiet sender on_ask queued (queueing_at sender on_ask octets ways)) ≡ None
        → AreQuietAt sender on_ask queued (queueing_at sender on_ask octets ways))
        → AreQuietAt sender on_ask (octets ∷ queued) ways
    go true is none rest = (is, rest none)
    go false is none rest = absurd (cc)

-- ---- a step

step_noted :
    (w : BenchWords) (end : End) (input : Input) (matched : Option ℕ) (before after : Near) (s : Stations)
    → IsStep end input matched before after → after.common.trouble ≡ None → before.side.station ≡ state_of end s
    → IsNoted w before.common.moments s → IsNoted w after.common.moments (with_state end after.side.station s)
step_noted w end input matched before after s h calm at noted =
    let step : Step = record {
      station = end;
      input = input;
      before = before.side.station;
      after = h.turn;
      turn = h.makes;
      octets = h.octets;
    } in
    let moments = before.common.moments in
    let ways = after_moments moments nothing_sent in
    let none : trouble_of (first_unquiet end (hears_ask input) h.turn.out.queued (hearing_at end matched ways)) ≡ None =
    sym (ap (λ (n : Near). n.common.trouble) h.is) ∙ calm in
    let moments_are : after.common.moments ≡ moments ++ Steps step matched ∷ [] = ap
    (λ (n : Near). n.common.moments) h.is in
    let station_is : after.side.station ≡ h.turn.now =
    ap (λ (n : Near). n.side.station) h.is ∙ told_station h.turn.out.pieces _ in
    let steps_are = steps_more moments step matched in
    let first = first_stations w in
    subst (λ (ms : List Moment). IsNoted w ms (with_state end after.side.station s)) (sym moments_are)
    (subst (λ state. IsNoted w (moments ++ Steps step matched ∷ []) (with_state end state s)) (sym station_is) (record {
      run = subst (IsJointRun first) (sym steps_are)
          (joint_more (steps_in moments) step first noted.run (at ∙ sym (ap (state_of end) noted.now)));
      now = ap (λ steps. all_stepped steps first) steps_are ∙ all_stepped_more (steps_in moments) step first
          ∙ ap (stepped step) noted.now;
      quiet = quiet_more moments (Steps step matched) nothing_sent noted.quiet
          (all_quiet end (hears_ask input) h.turn.out.queued (hearing_at end matched ways) none);
    }))

passed_noted :
    (w : BenchWords) (sender : End) (below : ℕ) (moments : List Moment) (s : Stations) → IsNoted w moments s
    → IsNoted w (moments ++ Passes sender below ∷ []) s
passed_noted w sender below moments s noted =
    let same = steps_passed moments sender below in
    record {
      run = subst (IsJointRun (first_stations w)) (sym same) noted.run;
      now = ap (λ steps. all_stepped steps (first_stations w)) same ∙ noted.now;
      quiet = quiet_more moments (Passes sender below) nothing_sent noted.quiet tt;
    }

pub noted_kept : (w : BenchWords) → KeptByCore w (IsNoted w)
noted_kept w = record {
  new = record { run = tt; now = refl; quiet = tt };
  steps = λ end usual matched before after s occurs h calm at noted.
      step_noted w end (input_of end usual) matched before after s h calm at noted;
  passes = λ sender below moments s noted. passed_noted w sender below moments s noted;
}
