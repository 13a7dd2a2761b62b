-- A run whose frames find a quiet channel by what is in flight as far as one can know: each event of a link finds a
-- quiet channel.
use Rattle.station_laws.proofs.Common.{◌≡◌, ℕ, ◌+◌, ◌<◌, ◌≤◌, Bool, true, false, List, [], ◌∷◌, ◌++◌, length, take}
use Rattle.station_laws.proofs.Common.{drop, Option, Some, None, is_some, refl, sym, ap, ◌∙◌, subst, arith, inl, inr}
use Rattle.station_laws.proofs.Common.{slice_get, count_by, Callsign, Path, Params, End, A, B, Change, changed}
use Rattle.station_laws.proofs.Common.{run_changes, AreQuiet, Makes, Keeps, Tagged, asks_in, answers_in, World}
use Rattle.station_laws.proofs.Common.{seen_from, other, each_weaker, each_append, is_between, StationState, Pair}
use Rattle.station_laws.proofs.Common.{AreHeardInOrder, Moment, LinkFrame, OneWay, BothWays, IsMatched, IsMatchedFor, AreMatchedFor}
use Rattle.station_laws.proofs.Common.{Calls, call_at_end, is_from_to}
use Rattle.station_laws.proofs.Common.{hears_ask, sent_by, in_flight, answers, is_ua_or_dm, after_moment, Steps, Passes}
use Rattle.station_laws.proofs.Common.{Input, Step, at_end, FromHost, OffAir, OfClock, Pairs, heard_at, makes}
use Rattle.station_laws.proofs.Common.{marks_from, event_at_end, changes_by, all_changes_by, LinkStep, steps_of}
use Rattle.station_laws.proofs.Common.{is_event, pair_of, pairs_from}
use Rattle.std.specs.List.{AllByRecursion as Each}
use Rattle.std.proofs.lemmas.Bool.{and_from}
use Rattle.link_machine.specs.Event.{Event as LinkEvent}
use Rattle.link_machine.specs.Event.Event.{Connect as LinkConnect, Send as LinkSend, Disconnect as LinkDisconnect}
use Rattle.link_machine.specs.Event.Event.{Hear as LinkHear, Seize as LinkSeize, Tick as LinkTick}
use Rattle.link_world.specs.Quiet.{is_quiet}
use Rattle.link_world.proofs.law.Each.{each_both}
use Rattle.station_laws.specs.LinkInFlight.{answers_from_to, asks_from_to}
use Rattle.station_laws.proofs.Acts.{is_asking}
use Rattle.station_laws.proofs.Along.{makes_near, near_all, AllFollowNear, by_seen, makes_seen}
use Rattle.station_laws.proofs.BenchQuiet.{AreQuietOne, bench_quiet}
use Rattle.station_laws.proofs.Counts.{Tells, flight_count}
use Rattle.station_laws.proofs.Flights.{RiseFrom, flight}
use Rattle.station_laws.proofs.Framed.{framed, frames_at}
use Rattle.station_laws.proofs.JointLaw.{step_near}
use Rattle.station_laws.proofs.Naming.{told_tagged, tagged_between, asks_told, rise_higher, asks_joined}
use Rattle.station_laws.proofs.NearQuiet.{joined_near, QuietNear, AllQuietNear, SendsAlone}
use Rattle.station_laws.proofs.Runs.{Between, Sent, Stepped, each_right}
use Rattle.station_laws.proofs.Ways.{front_by, front_passed}

-- ---- pairs that are still to be heard

rise_heard : (h s : ℕ) (ps : List Pair) → RiseFrom h s ps → Each (λ (p : Pair). h ≤ p.heard) ps
rise_heard h s [] rises = tt
rise_heard h s (p ∷ ps) rises =
    let low = rises.0 in (
      low,
      each_weaker (λ (q : Pair). p.heard + 1 ≤ q.heard) (λ (q : Pair). h ≤ q.heard) (λ q more. omega arith) ps
          (rise_heard (p.heard + 1) (p.sent + 1) ps rises.2),
    )

-- those ahead of a front
abbrev pub AheadFrom : ℕ → ℕ → Pair → Type 0
AheadFrom n front p = n ≤ p.heard → front ≤ p.sent

rise_ahead :
    (n front : ℕ) (pairs done rest : List Pair) → pairs ≡ done ++ rest → Each (AheadFrom n front) pairs
    → RiseFrom n 0 rest → RiseFrom n front rest
rise_ahead n front pairs done rest split ahead rises =
    let here : Each (AheadFrom n front) rest =
    each_right (AheadFrom n front) done rest (subst (λ xs. Each (AheadFrom n front) xs) split ahead) in
    rise_higher n 0 front rest rises
    (each_both (AheadFrom n front) (λ (p : Pair). n ≤ p.heard) (λ (p : Pair). front ≤ p.sent) (λ p f low. f low)
    rest here
    (rise_heard n 0 rest rises))

answers_told : (l r : Callsign) → Tells l r (λ (f : Tagged). f.answers) (answers_from_to l r)
answers_told l r f q tag answering =
    and_from (is_from_to l r q.octets) (answers q) (tagged_between l r f q tag)
    (and_from q.on_ask (is_ua_or_dm q.octets) (tag.cause answering) ((told_tagged l r f q tag).answer
    ∙ tag.answer answering))

-- ---- one step

-- what an end's events send in a step: at most one frame that asks, and then nothing of the kind is in flight
pub record SendStep (e : End) (pairs : List Pair) (n : ℕ) (steps : List LinkStep) (w : World) : Type 0 where
  pub stays : List Tagged
  pub follows : AllFollowNear e stays pairs n steps w
  pub sends : SendsAlone (asks_in (joined_near e pairs n steps w)) w stays

pub send_step :
    (e : End) (l r : Callsign) (pa pb : Params) (n : ℕ) (sb : StationState) (qa qb : List LinkFrame)
    (out_pairs back_pairs : List Pair) (w : World) (full : List Step) (step : Step) (own back : OneWay)
    → Between l r pa pb n step.before sb qa qb out_pairs back_pairs w → step.station ≡ e → slice_get full n ≡ Some step
    → frames_at (other e) (take n full) ≡ qb → AreHeardInOrder r l (other e) full out_pairs
    → AreHeardInOrder l r e full back_pairs → own.queued ≡ qa → back.queued ≡ qb → own.front ≤ length own.queued
    → Each (AheadFrom n own.front) out_pairs → Each (AheadFrom (n + 1) back.front) back_pairs
    → AreQuietOne l r (hears_ask step.input) step.after.out.queued own back
    → SendStep e out_pairs (length qa) (steps_of (is_between l r) step) w
send_step e l r pa pb n sb qa qb out_pairs back_pairs w full step own back h station is queue out_order back_order
    own_is back_is
    low own_ahead back_ahead quiet =
    let on = hears_ask step.input in
    let steps = steps_of (is_between l r) step in
    let done : Stepped e on l r pa pb n sb qa qb out_pairs back_pairs w step.after steps =
    step_near e l r pa pb n sb qa qb out_pairs back_pairs w full step h station is queue out_order back_order in
    let total = asks_in (joined_near e out_pairs (length qa) steps w) in
    let fits : total ≤ count_by (asks_from_to l r) (framed on step.after.out.queued) =
    asks_joined e l r pa pb n sb qa qb out_pairs back_pairs w full step h station is queue back_order in
    let out_rises : RiseFrom n own.front h.out.rest =
    rise_ahead n own.front out_pairs h.out.done h.out.rest h.out.split own_ahead h.out.rises in
    let ahead : asks_in (flight h.out.tags h.out.rest) ≤ count_by (asks_from_to l r) (drop own.front qa) =
    flight_count l r is_asking (asks_from_to l r) (asks_told l r) h.out.tags qa h.out.tagged n own.front h.out.rest out_rises in
    let ahead_is : asks_in w.b.towards ≡ asks_in (flight h.out.tags h.out.rest) = ap asks_in h.out.ahead in
    let own_flight : count_by (asks_from_to l r) (in_flight own) ≡ count_by (asks_from_to l r) (drop own.front qa) =
    ap (λ q. count_by (asks_from_to l r) (drop own.front q)) own_is in
    let later : Sent r l qb back_pairs (n + 1) (near_all e out_pairs (length qa) steps w).a.towards =
    done.between.back in
    let back_rises : RiseFrom (n + 1) back.front later.rest =
    rise_ahead (n + 1) back.front back_pairs later.done later.rest later.split back_ahead later.rises in
    let following : answers_in (flight later.tags later.rest) ≤ count_by (answers_from_to r l) (drop back.front qb) =
    flight_count r l (λ (f : Tagged). f.answers) (answers_from_to r l) (answers_told r l) later.tags qb later.tagged (n + 1)
    back.front later.rest
    back_rises in
    let following_is : answers_in done.stays ≡ answers_in (flight later.tags later.rest) =
    ap answers_in (sym done.left ∙ later.ahead) in
    let back_flight : count_by (answers_from_to r l) (in_flight back) ≡ count_by (answers_from_to r l) (drop back.front qb) =
    ap (λ q. count_by (answers_from_to r l) (drop back.front q)) back_is in
    let sends : SendsAlone total w done.stays =
    elim (bench_quiet l r on step.after.out.queued own back low quiet) [
      | inl none ↦ inl (omega arith)
      | inr few ↦ let one = few.0 in let none = few.1 in inr (omega arith, omega arith)
    ] in
    record { stays = done.stays; follows = done.follows; sends = sends }

-- ---- as changes of the world

pub quiet-append :
    (w : World) (first second : List Change) → AreQuiet w first → AreQuiet (run_changes w first) second
    → AreQuiet w (first ++ second)
quiet-append w [] second h k = k
quiet-append w (change ∷ first) second h k = (h.0, quiet-append (changed w change) first second h.1 k)

quiet_event :
    (e : End) (event : LinkEvent) (w : World) → QuietNear event e (seen_from e w)
    → is_quiet w (event_at_end e event) ≡ true
quiet_event e LinkConnect w h = and_from _ _ h.0 h.1
quiet_event e (LinkSend packet) w h = and_from _ _ h.0 h.1
quiet_event e LinkDisconnect w h = and_from _ _ h.0 h.1
quiet_event e (LinkHear frame) w h = and_from _ _ h.0 h.1
quiet_event e (LinkTick waiting) w h = and_from _ _ h.0 h.1
quiet_event e (LinkSeize last full) w h = and_from _ _ h.0 h.1

pub quiet_by :
    (e : End) (event : LinkEvent) (ms : List Bool) (anew : Option Path) (w : World)
    → QuietNear event e (makes_near anew (seen_from e w))
    → AreQuiet w (makes e anew ++ Keeps (event_at_end e event) ms ∷ [])
quiet_by e event ms None w h = (quiet_event e event w h, tt)
quiet_by e event ms (Some path) w h = (
  refl,
  (
    quiet_event e event (changed w (Makes e path))
        (subst (QuietNear event e) (sym (makes_seen e (Some path) w)) h),
    tt,
  ),
)

pub quiet_all :
    (e : End) (pairs : Pairs) (n : ℕ) (steps : List LinkStep) (w : World)
    → AllQuietNear e (heard_at (other e) pairs) n steps (seen_from e w) → AreQuiet w (all_changes_by e pairs n steps)
quiet_all e pairs n [] w h = tt
quiet_all e pairs n (step ∷ steps) w h =
    let ms = marks_from (heard_at (other e) pairs) (n + step.first) step.joined in
    quiet-append w (changes_by e pairs n step) (all_changes_by e pairs n steps)
    (quiet_by e step.event ms step.anew w h.0)
    (quiet_all e pairs n steps (run_changes w (changes_by e pairs n step))
    (subst (AllQuietNear e (heard_at (other e) pairs) n steps) (sym (by_seen e pairs n step step.anew w)) h.1))

-- ---- what is matched later lies ahead

pair_ahead :
    (l r : Callsign) (b : Bool) (n : ℕ) (step : Step) (matched : Option ℕ) (way : OneWay)
    → IsMatchedFor l r step matched way → Each (λ (p : Pair). way.front ≤ p.sent) (pair_of b n matched)
pair_ahead l r false n step matched way is = tt
pair_ahead l r true n step None way is = tt
pair_ahead l r true n step (Some sent) way is = by_input step.input is
  where
    by_input : (input : Input) → IsMatched input (Some sent) way
        → Each (λ (p : Pair). way.front ≤ p.sent) (pair_of true n (Some sent))
    by_input (FromHost event) h = absurd (cc)
    by_input (OffAir octets) h = (h.ahead, tt)
    by_input (OfClock busy) h = absurd (cc)

here_ahead :
    (calls : Calls) (e s : End) (b : Bool) (n : ℕ) (step : Step) (matched : Option ℕ) (ways : BothWays)
    → IsMatchedFor (call_at_end calls s) (call_at_end calls (other s)) step matched (sent_by (other s) ways)
    → Each (λ (p : Pair). (sent_by (other e) ways).front ≤ p.sent) (at_end e s (pair_of b n matched))
here_ahead calls A A b n step matched ways is = pair_ahead calls.a calls.b b n step matched ways.from_b is
here_ahead calls B B b n step matched ways is = pair_ahead calls.b calls.a b n step matched ways.from_a is
here_ahead calls A B b n step matched ways is = tt
here_ahead calls B A b n step matched ways is = tt

pub ahead_from :
    (calls : Calls) (e : End) (n : ℕ) (moments : List Moment) (ways : BothWays) → AreMatchedFor calls moments ways
    → Each (λ (p : Pair). (sent_by (other e) ways).front ≤ p.sent) (pairs_from e n moments)
ahead_from calls e n [] ways matched = tt
ahead_from calls e n (Passes sender below ∷ moments) ways matched =
    let next = after_moment (Passes sender below) ways in
    each_weaker (λ (p : Pair). (sent_by (other e) next).front ≤ p.sent)
    (λ (p : Pair). (sent_by (other e) ways).front ≤ p.sent)
    (λ p ahead. let more = front_passed (other e) sender below ways in omega arith) (pairs_from e n moments)
    (ahead_from calls e n moments next matched.1)
ahead_from calls e n (Steps step found ∷ moments) ways matched =
    let next = after_moment (Steps step found) ways in
    each_append (λ (p : Pair). (sent_by (other e) ways).front ≤ p.sent)
    (at_end e step.station (pair_of (is_event (steps_of is_some step)) n found)) (pairs_from e (n + 1) moments)
    (here_ahead calls e step.station (is_event (steps_of is_some step)) n step found ways matched.0)
    (each_weaker (λ (p : Pair). (sent_by (other e) next).front ≤ p.sent)
    (λ (p : Pair). (sent_by (other e) ways).front ≤ p.sent)
    (λ p ahead.
    let more = front_by (other e) step.station (hears_ask step.input) step.after.out.queued found ways in
    omega arith)
    (pairs_from e (n + 1) moments) (ahead_from calls e (n + 1) moments next matched.1))

-- pairs before, and those ahead
pub all_ahead :
    (n front : ℕ) (before later : List Pair) → Each (λ (p : Pair). p.heard < n) before
    → Each (λ (p : Pair). front ≤ p.sent) later → Each (AheadFrom n front) (before ++ later)
all_ahead n front before later past ahead =
    each_append (AheadFrom n front) before later
    (each_weaker (λ (p : Pair). p.heard < n) (AheadFrom n front) (λ p less low. absurd (omega arith)) before past)
    (each_weaker (λ (p : Pair). front ≤ p.sent) (AheadFrom n front) (λ p is low. is) later ahead)

-- the pair of a step has its number
pair_now : (b : Bool) (n : ℕ) (matched : Option ℕ) → Each (λ (p : Pair). p.heard < n + 1) (pair_of b n matched)
pair_now false n matched = tt
pair_now true n None = tt
pair_now true n (Some sent) = (omega arith, tt)

pub end_now :
    (e s : End) (b : Bool) (n : ℕ) (matched : Option ℕ)
    → Each (λ (p : Pair). p.heard < n + 1) (at_end e s (pair_of b n matched))
end_now A A b n matched = pair_now b n matched
end_now B B b n matched = pair_now b n matched
end_now A B b n matched = tt
end_now B A b n matched = tt
