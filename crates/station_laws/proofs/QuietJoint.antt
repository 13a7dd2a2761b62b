-- A run whose frames find a quiet channel as far as one can know, moment by moment: the link of two calls is quiet.
use Rattle.station_laws.proofs.Common.{◌≡◌, ℕ, ◌+◌, ◌<◌, ◌≤◌, Bool, List, [], ◌∷◌, ◌++◌, length, Option, Some, None}
use Rattle.station_laws.proofs.Common.{is_some, refl, sym, ap, ◌∙◌, subst, arith, ⊤, append_assoc, length-append}
use Rattle.station_laws.proofs.Common.{slice_get_within, Params, End, A, B, Change, run_changes, AreQuiet}
use Rattle.station_laws.proofs.Common.{ChangesAreValid, RecordedEnd, World, other, each_weaker, each_append, Pair}
use Rattle.station_laws.proofs.Common.{AreHeardInOrder, Moment, LinkFrame, OneWay, BothWays, IsMatched, Callsign, call_at_end}
use Rattle.station_laws.proofs.Common.{AreMatchedFor, IsMatchedFor, AreQuietFor, AreQuietAtFor, hears_ask, steps_in, sent_by, queueing_all}
use Rattle.station_laws.proofs.Common.{hearing_at, after_moment, Steps, Passes, Input, Step, Stations, state_of}
use Rattle.station_laws.proofs.Common.{stepped, at_end, FromHost, OffAir, OfClock, Calls, Pairs, Counts, link_at_end}
use Rattle.station_laws.proofs.Common.{count_at, with_more, all_changes_by, changes_from, steps_of, IsEventOfCaller}
use Rattle.station_laws.proofs.Common.{is_event, pair_of, pairs_from}
use Rattle.std.specs.List.{AllByRecursion as Each}
use Rattle.std.proofs.Math.Nat.{max-le}
use Rattle.station_laws.specs.InFlight.{past_heard}
use Rattle.station_laws.proofs.Along.{changes_seen, run_changes-append}
use Rattle.station_laws.proofs.BenchQuiet.{quiet_one}
use Rattle.station_laws.proofs.CallerQuiet.{CallerQuiet, caller_quiet}
use Rattle.station_laws.proofs.Calm.{IsCalm}
use Rattle.station_laws.proofs.CalmRuns.{CalmQuiet, calm_quiet}
use Rattle.station_laws.proofs.Exchanges.{AsksOut}
use Rattle.station_laws.proofs.Framed.{framed, frames_at}
use Rattle.station_laws.proofs.QuietRuns.{AheadFrom, SendStep, send_step, quiet-append, quiet_all, ahead_from}
use Rattle.station_laws.proofs.QuietRuns.{all_ahead, end_now}
use Rattle.station_laws.proofs.Runs.{Between}
use Rattle.station_laws.proofs.Ways.{joined, queued_passed, stepped_own, stepped_other}
use Rattle.station_laws.proofs.NearQuiet.{far_end}
use Rattle.station_laws.proofs.JointLaw.{RunHolds, StepDone}
use Rattle.station_laws.proofs.MatchedOrder.{queued_step}

-- ---- what is asked of each event

abbrev pub EventsHold : Calls → List Step → Type 0
EventsHold calls [] = ⊤
EventsHold calls (step ∷ steps) =
    Each (IsEventOfCaller step.station) (steps_of (link_at_end calls step.station) step) × EventsHold calls steps

-- ---- the fronts stay within what was queued

abbrev pub FrontFits : OneWay → Type 0
FrontFits way = way.front ≤ length way.queued

heard_fits :
    (l r : Callsign) (step : Step) (matched : Option ℕ) (way : OneWay) → IsMatchedFor l r step matched way
    → FrontFits way → FrontFits (past_heard matched way)
heard_fits l r step None way is fits = fits
heard_fits l r step (Some number) way is fits = by_input step.input is
  where
    by_input : (input : Input) → IsMatched input (Some number) way → FrontFits (past_heard (Some number) way)
    by_input (FromHost event) h = absurd (cc)
    by_input (OffAir octets) h =
        let within = slice_get_within way.queued number h.frame h.is_there in max-le fits (omega arith)
    by_input (OfClock busy) h = absurd (cc)

joined_fits : (frames : List LinkFrame) (way : OneWay) → FrontFits way → FrontFits (joined frames way)
joined_fits frames way fits = let size = length-append way.queued frames in omega arith

pub record BothFit (ways : BothWays) : Type 0 where
  pub of_a : FrontFits ways.from_a
  pub of_b : FrontFits ways.from_b

step_fits :
    (calls : Calls) (e : End) (on : Bool) (queue : List (List ℕ)) (step : Step) (matched : Option ℕ) (ways : BothWays)
    → IsMatchedFor (call_at_end calls e) (call_at_end calls (other e)) step matched (sent_by (other e) ways)
    → BothFit ways → BothFit (queueing_all e on queue (hearing_at e matched ways))
step_fits calls A on queue step matched ways is fits = record {
  of_a = subst FrontFits (sym (stepped_own A on queue matched ways))
      (joined_fits (framed on queue) ways.from_a fits.of_a);
  of_b = subst FrontFits (sym (stepped_other A on queue matched ways))
      (heard_fits calls.a calls.b step matched ways.from_b is fits.of_b);
}
step_fits calls B on queue step matched ways is fits = record {
  of_a = subst FrontFits (sym (stepped_other B on queue matched ways))
      (heard_fits calls.b calls.a step matched ways.from_a is fits.of_a);
  of_b = subst FrontFits (sym (stepped_own B on queue matched ways))
      (joined_fits (framed on queue) ways.from_b fits.of_b);
}

pass_fits : (sender : End) (below : ℕ) (ways : BothWays) → below ≤ length (sent_by sender ways).queued → BothFit ways
    → BothFit (after_moment (Passes sender below) ways)
pass_fits A below ways low fits = record { of_a = max-le fits.of_a low; of_b = fits.of_b }
pass_fits B below ways low fits = record { of_a = fits.of_a; of_b = max-le fits.of_b low }

past_queued : (matched : Option ℕ) (way : OneWay) → (past_heard matched way).queued ≡ way.queued
past_queued None way = refl
past_queued (Some number) way = refl

-- ---- one step

-- what holds before some moments of a run
pub record Now (calls : Calls) (pairs : Pairs) (a b : Params) (st : Stations) (past full : List Step) (counts : Counts)
    (w : World)
    (ways : BothWays) (moments : List Moment) : Type 0 where
  pub run : RunHolds calls pairs a b full past st counts w (steps_in moments)
  pub queued_a : ways.from_a.queued ≡ frames_at A past
  pub queued_b : ways.from_b.queued ≡ frames_at B past
  pub fits : BothFit ways
  pub before_a : List Pair
  pub before_b : List Pair
  pub split_a : pairs.at_a ≡ before_a ++ pairs_from A (length past) moments
  pub split_b : pairs.at_b ≡ before_b ++ pairs_from B (length past) moments
  pub past_a : Each (λ (p : Pair). p.heard < length past) before_a
  pub past_b : Each (λ (p : Pair). p.heard < length past) before_b
  pub matched : AreMatchedFor calls moments ways
  pub quiet : AreQuietFor calls moments ways
  pub holds : EventsHold calls (steps_in moments)
  pub asks : AsksOut w
  pub start : World
  pub law : (changes : List Change) → AreQuiet start changes → ChangesAreValid start changes
  pub so_far : List Change
  pub world_is : w ≡ run_changes start so_far
  pub quiet_so_far : AreQuiet start so_far
  pub calm : IsCalm w.b.end.machine.control

record StepQuiet (calls : Calls) (pairs : Pairs) (counts : Counts) (w : World) (step : Step) (e : End) : Type 0 where
  quiet : AreQuiet w (all_changes_by e pairs (count_at e counts) (steps_of (link_at_end calls e) step))
  asks : AsksOut (run_changes w (all_changes_by e pairs (count_at e counts) (steps_of (link_at_end calls e) step)))
  calm : IsCalm (run_changes w (all_changes_by e pairs (count_at e counts)
      (steps_of (link_at_end calls e) step))).b.end.machine.control

-- the pairs of the far side after this step
later_ahead :
    (x s : End) (pairs before : List Pair) (b : Bool) (n front : ℕ) (found : Option ℕ) (moments : List Moment)
    → pairs ≡ before ++ (at_end x s (pair_of b n found) ++ pairs_from x (n + 1) moments)
    → Each (λ (p : Pair). p.heard < n) before → Each (λ (p : Pair). front ≤ p.sent) (pairs_from x (n + 1) moments)
    → Each (AheadFrom (n + 1) front) pairs
later_ahead x s pairs before b n front found moments split past later =
    let now = at_end x s (pair_of b n found) in
    let rest = pairs_from x (n + 1) moments in
    subst (λ xs. Each (AheadFrom (n + 1) front) xs) (sym (split ∙ sym (append_assoc before now rest)))
    (all_ahead (n + 1) front (before ++ now) rest
    (each_append (λ (p : Pair). p.heard < n + 1) before now
    (each_weaker (λ (p : Pair). p.heard < n) (λ (p : Pair). p.heard < n + 1) (λ p less. omega arith) before past)
    (end_now x s b n found)) later)

step_quiet :
    (calls : Calls) (pairs : Pairs) (a b : Params) (st : Stations) (past full : List Step) (counts : Counts) (w : World)
    (ways : BothWays) (step : Step) (found : Option ℕ) (moments : List Moment) (e : End)
    → AreHeardInOrder calls.a calls.b A full pairs.at_a → AreHeardInOrder calls.b calls.a B full pairs.at_b
    → Now calls pairs a b st past full counts w ways (Steps step found ∷ moments) → step.station ≡ e
    → step.before ≡ state_of e st → StepDone calls pairs a b (length past) st past counts w step e
    → AreQuietAtFor calls e (hears_ask step.input) step.after.out.queued (hearing_at e found ways)
    → Each (λ (p : Pair). (sent_by (other e) (queueing_all e (hears_ask step.input) step.after.out.queued
    (hearing_at e found ways))).front ≤ p.sent)
    (pairs_from e (length past + 1) moments)
    → Each (IsEventOfCaller e) (steps_of (link_at_end calls e) step)
    → StepQuiet calls pairs counts w step e
step_quiet calls pairs a b st past full counts w ways step found moments A heard_a heard_b r station before done quiet
    later holds =
    let n = length past in
    let on = hears_ask step.input in
    let here = r.run.0 in
    let qa = frames_at A past in
    let qb = frames_at B past in
    let steps = steps_of (link_at_end calls A) step in
    let back : OneWay = past_heard found ways.from_b in
    let now : Between calls.a calls.b a b n step.before st.b qa qb pairs.at_b pairs.at_a w =
    subst (λ s. Between calls.a calls.b a b n s st.b qa qb pairs.at_b pairs.at_a w) (sym before) here.between in
    let out_ahead : Each (AheadFrom n ways.from_a.front) pairs.at_b =
    subst (λ xs. Each (AheadFrom n ways.from_a.front) xs) (sym r.split_b)
    (all_ahead n ways.from_a.front r.before_b (pairs_from B n (Steps step found ∷ moments)) r.past_b
    (ahead_from calls B n (Steps step found ∷ moments) ways r.matched)) in
    let front : sent_by B (queueing_all A on step.after.out.queued (hearing_at A found ways)) ≡ back =
    stepped_other A on step.after.out.queued found ways in
    let back_ahead : Each (AheadFrom (n + 1) back.front) pairs.at_a =
    later_ahead A step.station pairs.at_a r.before_a (is_event (steps_of is_some step))
    n back.front found moments r.split_a r.past_a
    (subst (λ (way : OneWay). Each (λ (p : Pair). way.front ≤ p.sent) (pairs_from A (n + 1) moments)) front later) in
    let q : SendStep A pairs.at_b (length qa) steps w =
    send_step A calls.a calls.b a b n st.b qa qb pairs.at_b pairs.at_a w full step ways.from_a back now station
    here.there (ap (frames_at B) here.taken) heard_b heard_a r.queued_a (past_queued found ways.from_b ∙ r.queued_b)
    r.fits.of_a out_ahead back_ahead
    (quiet_one calls A on step.after.out.queued (hearing_at A found ways) quiet) in
    let near : CallerQuiet A pairs.at_b (length qa) steps w =
    caller_quiet A q.stays pairs.at_b (length qa) steps w q.follows holds q.sends r.asks in
    let seen = changes_seen A pairs (length qa) steps w in
    record {
      quiet = subst (λ k. AreQuiet w (all_changes_by A pairs k steps)) (sym here.count_at_a)
          (quiet_all A pairs (length qa) steps w near.quiet);
      asks = subst (λ k. AsksOut (run_changes w (all_changes_by A pairs k steps))) (sym here.count_at_a)
          (subst AsksOut (sym seen) near.asks);
      calm = subst (λ k. IsCalm (run_changes w (all_changes_by A pairs k steps)).b.end.machine.control)
          (sym here.count_at_a)
          (subst (λ (x : RecordedEnd). IsCalm x.machine.control)
          (sym (ap (λ (x : World). x.b.end) seen ∙ far_end A pairs.at_b (length qa) steps w)) r.calm);
    }
step_quiet calls pairs a b st past full counts w ways step found moments B heard_a heard_b r station before done quiet
    later holds =
    let calm : CalmQuiet pairs counts.b (steps_of (link_at_end calls B) step) w =
    calm_quiet r.start r.law done.stays pairs counts.b (steps_of (link_at_end calls B) step) r.so_far w r.world_is
    r.quiet_so_far r.calm r.asks done.near holds in
    record { quiet = calm.quiet; asks = calm.asks; calm = calm.calm }

-- ---- all moments

split_more :
    (x s : End) (pairs before : List Pair) (b : Bool) (past : List Step) (step : Step) (found : Option ℕ)
    (moments : List Moment)
    → pairs ≡ before ++ (at_end x s (pair_of b (length past) found) ++ pairs_from x (length past + 1) moments)
    → pairs ≡ (before ++ at_end x s (pair_of b (length past) found))
    ++ pairs_from x (length (past ++ step ∷ [])) moments
split_more x s pairs before b past step found moments split =
    let now = at_end x s (pair_of b (length past) found) in
    split ∙ sym (append_assoc before now (pairs_from x (length past + 1) moments))
    ∙ ap (λ n. (before ++ now) ++ pairs_from x n moments) (sym (length-append past (step ∷ [])))

past_more :
    (x s : End) (before : List Pair) (b : Bool) (past : List Step) (step : Step) (found : Option ℕ)
    → Each (λ (p : Pair). p.heard < length past) before
    → Each (λ (p : Pair). p.heard < length (past ++ step ∷ [])) (before ++ at_end x s (pair_of b (length past) found))
past_more x s before b past step found all =
    subst (λ n. Each (λ (p : Pair). p.heard < n) (before ++ at_end x s (pair_of b (length past) found)))
    (sym (length-append past (step ∷ [])))
    (each_append (λ (p : Pair). p.heard < length past + 1) before (at_end x s (pair_of b (length past) found))
    (each_weaker (λ (p : Pair). p.heard < length past) (λ (p : Pair). p.heard < length past + 1) (λ p less. omega arith)
    before all)
    (end_now x s b (length past) found))

pub quiet_run :
    (calls : Calls) (pairs : Pairs) (a b : Params) (st : Stations) (past full : List Step) (counts : Counts) (w : World)
    (ways : BothWays) (moments : List Moment) → AreHeardInOrder calls.a calls.b A full pairs.at_a → AreHeardInOrder calls.b calls.a B full pairs.at_b
    → Now calls pairs a b st past full counts w ways moments
    → AreQuiet w (changes_from calls pairs counts (steps_in moments))
quiet_run calls pairs a b st past full counts w ways [] heard_a heard_b h = tt
quiet_run calls pairs a b st past full counts w ways (Passes sender below ∷ moments) heard_a heard_b h =
    quiet_run calls pairs a b st past full counts w (after_moment (Passes sender below) ways) moments heard_a heard_b
    (record {
      run = h.run;
      queued_a = queued_passed A sender below ways ∙ h.queued_a;
      queued_b = queued_passed B sender below ways ∙ h.queued_b;
      fits = pass_fits sender below ways h.matched.0 h.fits;
      before_a = h.before_a;
      before_b = h.before_b;
      split_a = h.split_a;
      split_b = h.split_b;
      past_a = h.past_a;
      past_b = h.past_b;
      matched = h.matched.1;
      quiet = h.quiet.1;
      holds = h.holds;
      asks = h.asks;
      start = h.start;
      law = h.law;
      so_far = h.so_far;
      world_is = h.world_is;
      quiet_so_far = h.quiet_so_far;
      calm = h.calm;
    })
quiet_run calls pairs a b st past full counts w ways (Steps step found ∷ moments) heard_a heard_b h =
    let e = step.station in
    let changes = all_changes_by e pairs (count_at e counts) (steps_of (link_at_end calls e) step) in
    let more = with_more e (length step.after.out.queued) counts in
    let event = is_event (steps_of is_some step) in
    let ways_next = after_moment (Steps step found) ways in
    let one : StepQuiet calls pairs counts w step e =
    step_quiet calls pairs a b st past full counts w ways step found moments e heard_a heard_b h refl h.run.0.before
    h.run.0.done h.quiet.0 (ahead_from calls e (length past + 1) moments ways_next h.matched.1) h.holds.0 in
    quiet-append w changes (changes_from calls pairs more (steps_in moments)) one.quiet
    (quiet_run calls pairs a b (stepped step st) (past ++ step ∷ []) full more (run_changes w changes) ways_next moments
    heard_a heard_b (record {
      run = h.run.1;
      queued_a = queued_step A past ways step found h.queued_a;
      queued_b = queued_step B past ways step found h.queued_b;
      fits = step_fits calls e (hears_ask step.input) step.after.out.queued step found ways h.matched.0 h.fits;
      before_a = h.before_a ++ at_end A e (pair_of event (length past) found);
      before_b = h.before_b ++ at_end B e (pair_of event (length past) found);
      split_a = split_more A e pairs.at_a h.before_a event past step found moments h.split_a;
      split_b = split_more B e pairs.at_b h.before_b event past step found moments h.split_b;
      past_a = past_more A e h.before_a event past step found h.past_a;
      past_b = past_more B e h.before_b event past step found h.past_b;
      matched = h.matched.1;
      quiet = h.quiet.1;
      holds = h.holds.1;
      asks = one.asks;
      start = h.start;
      law = h.law;
      so_far = h.so_far ++ changes;
      world_is = ap (λ x. run_changes x changes) h.world_is ∙ sym (run_changes-append h.so_far changes h.start);
      quiet_so_far = quiet-append h.start h.so_far changes h.quiet_so_far
          (subst (λ x. AreQuiet x changes) h.world_is one.quiet);
      calm = one.calm;
    }))
