-- A heard frame is matched with one in flight: what a station sends comes to the other one in order, and a frame that
-- a mark has passed is not heard later.
use Rattle.channel_bench.proofs.Common.{◌≡◌, ℕ, cond, ◌+◌, ◌-◌, ◌*◌, ◌<◌, ◌≤◌, ◌==◌, ◌⊎◌, max, Bool, true, false, List}
use Rattle.channel_bench.proofs.Common.{[], ◌∷◌, ◌++◌, length, map, drop, get_or, Option, Some, None, refl, sym, ap}
use Rattle.channel_bench.proofs.Common.{◌∙◌, subst, inl, inr, arith, length-append, count_by, option_map, slice_get}
use Rattle.channel_bench.proofs.Common.{cases_lt, append-nil, append_assoc, map-append, slice_get-get_or, slice_get-map}
use Rattle.channel_bench.proofs.Common.{Sent, Candidate, End, A, B, other, Piece, StationState, air_of, SentAt, Near}
use Rattle.channel_bench.proofs.Common.{SideState, IsStep, is_frame_of, program_id, told_octets, told_piece, told_pieces}
use Rattle.channel_bench.proofs.Common.{Moment, AreMatched, BothWays, IsMatched, IsMatchedIn, LinkFrame, OneWay}
use Rattle.channel_bench.proofs.Common.{after_moment, after_moments, hears_ask, hearing_at, nothing_sent, sent_by}
use Rattle.channel_bench.proofs.Common.{steps_in, Steps, Passes, Input, Step, at_end, queued_at, OffAir, OfClock}
use Rattle.channel_bench.proofs.Common.{sent_in, framed, queued_by, queued_passed}
use Rattle.std.proofs.Math.Nat.{le-max_left, le-max_right, max-le}
use Rattle.std.proofs.lemmas.Bool.{false≢true}
use Rattle.std.proofs.lemmas.Slice.Eq.{bytes_eq-Decides}
use Rattle.station_laws.specs.InFlight.{IsInFlight}
use Rattle.channel_bench.proofs.ChannelOrder.{octets_of, sent_octets}
use Rattle.station_laws.proofs.Framed.{octets_in, at_end_octets}
use Rattle.channel_bench.proofs.NotedRun.{steps_more}
use Rattle.channel_bench.proofs.SentInOrder.{InOrder, sent_at, sent_in_step, sent_more}
use Rattle.channel_bench.proofs.TowardsLemmas.{IsMatchAt, Rising, counted_within, has_passed, none_counted, octets_at}
use Rattle.channel_bench.proofs.TowardsLemmas.{passed_counted}
use Rattle.channel_bench.proofs.TowardsLemmas.{rising_later, rising_more, still_there}
use Rattle.station_laws.proofs.Ways.{hearing_one, hearing_none, stepped_other, stepped_own}
use Rattle.channel_bench.proofs.FlightLemmas.{moments_more}

-- ---- the frames that links have queued, in a run with its matches

queued_in :
    (e : End) (moments : List Moment) (ways : BothWays)
    → octets_in (sent_by e (after_moments moments ways)).queued ≡ octets_in (sent_by e ways).queued ++ queued_at e
    (steps_in moments)
queued_in e [] ways = sym (append-nil (octets_in (sent_by e ways).queued))
queued_in e (Steps step m ∷ moments) ways =
    let before = octets_in (sent_by e ways).queued in
    let joins = at_end e step.station step.after.out.queued in
    queued_in e moments (after_moment (Steps step m) ways)
    ∙ ap (λ q. octets_in q ++ queued_at e (steps_in moments))
    (queued_by e step.station (hears_ask step.input) step.after.out.queued m ways)
    ∙ ap (λ xs. xs ++ queued_at e (steps_in moments))
    (map-append (λ (f : LinkFrame). f.octets) (sent_by e ways).queued
    (at_end e step.station (framed (hears_ask step.input) step.after.out.queued))
    ∙ ap (λ xs. before ++ xs) (at_end_octets e step.station (hears_ask step.input) step.after.out.queued))
    ∙ append_assoc before joins (queued_at e (steps_in moments))
queued_in e (Passes sender below ∷ moments) ways =
    queued_in e moments (after_moment (Passes sender below) ways)
    ∙ ap (λ q. octets_in q ++ queued_at e (steps_in moments)) (queued_passed e sender below ways)

abbrev pub ways_after : List Moment → BothWays
ways_after moments = after_moments moments nothing_sent

nothing_queued : (e : End) → octets_in (sent_by e nothing_sent).queued ≡ []
nothing_queued A = refl
nothing_queued B = refl

pub queued_is : (e : End) (moments : List Moment)
    → octets_in (sent_by e (ways_after moments)).queued ≡ queued_at e (steps_in moments)
queued_is e moments = queued_in e moments nothing_sent
    ∙ ap (λ xs. xs ++ queued_at e (steps_in moments)) (nothing_queued e)

-- ---- matches

pub matched_more :
    (moments : List Moment) (moment : Moment) (ways : BothWays) → AreMatched moments ways
    → IsMatchedIn moment (after_moments moments ways) → AreMatched (moments ++ moment ∷ []) ways
matched_more [] moment ways matched next = (next, tt)
matched_more (first ∷ moments) moment ways matched next =
    (matched.0, matched_more moments moment (after_moment first ways) matched.1 next)

-- ---- one direction

-- The frames that a station has sent are those whose sending has ended and one that is still to be told of. Those that
-- are no longer in flight were matched, or a mark has passed them. One frame more may be matched: the one that is on its
-- way.
pub record WayHolds (pending : Option Sent) (sent : List (List ℕ)) (front ticks : ℕ) (towards : List SentAt)
    (matched samples : ℕ)
    : Type 0 where
  pub sent_is : sent ≡ map octets_at towards ++ sent_octets pending
  pub soon : (s : Sent) → pending ≡ Some s → s.after ≤ 96
  pub rising : Rising 0 towards samples
  pub matched_within : matched ≤ length towards + 1
  pub front_within : (front ≤ length towards) ⊎ (front ≤ matched)
  pub past_matched : matched ≤ front
  pub passed : (k : ℕ) → k < front → (k < matched) ⊎
      ((s : SentAt) → slice_get towards k ≡ Some s → s.end + 23 ≤ 96 * ticks)

pub way_same :
    (pending : Option Sent) (ticks : ℕ) (s s' : List (List ℕ)) (f f' : ℕ) (t t' : List SentAt) (m m' n n' : ℕ)
    → s' ≡ s → f' ≡ f → t' ≡ t
    → m' ≡ m → n' ≡ n → WayHolds pending s f ticks t m n → WayHolds pending s' f' ticks t' m' n'
way_same pending ticks s s' f f' t t' m m' n n' is_s is_f is_t is_m is_n h =
    subst (λ x. WayHolds pending x f' ticks t' m' n') (sym is_s)
    (subst (λ x. WayHolds pending s x ticks t' m' n') (sym is_f)
    (subst (λ x. WayHolds pending s f ticks x m' n') (sym is_t)
    (subst (λ x. WayHolds pending s f ticks t x n') (sym is_m)
    (subst (λ x. WayHolds pending s f ticks t m x) (sym is_n) h))))

-- both directions, seen from one end: what it hears, and what the other one does
pub record Both (end : End) (own far_pending : Option Sent) (ticks : ℕ) (moments : List Moment)
    (side far : SideState) : Type 0 where
  pub here : WayHolds far_pending (sent_at (other end) (steps_in moments))
      (sent_by (other end) (ways_after moments)).front ticks
      side.towards side.matched (length side.samples)
  pub there : WayHolds own (sent_at end (steps_in moments)) (sent_by end (ways_after moments)).front ticks
      far.towards far.matched (length far.samples)
  pub matched : AreMatched moments nothing_sent

-- ---- what a step leaves

record Leaves (before after : SideState) : Type 0 where
  towards : after.towards ≡ before.towards
  matched : after.matched ≡ before.matched
  samples : after.samples ≡ before.samples

told_leaves : (pieces : List Piece) (side : SideState) → Leaves side (told_pieces pieces side)
told_leaves [] side = record { towards = refl; matched = refl; samples = refl }
told_leaves (piece ∷ pieces) side =
    let rest = told_leaves pieces (told_piece piece side) in
    let one = go (piece.id == program_id) in
    record {
      towards = rest.towards ∙ one.towards;
      matched = rest.matched ∙ one.matched;
      samples = rest.samples ∙ one.samples;
    }
  where
    go : (b : Bool) → Leaves side (cond b (told_octets piece.octets side) side)
    go true = record { towards = refl; matched = refl; samples = refl }
    go false = record { towards = refl; matched = refl; samples = refl }

at_own : (e : End) (xs : List (List ℕ)) → at_end e e xs ≡ xs
at_own A xs = refl
at_own B xs = refl

at_other : (e : End) (xs : List (List ℕ)) → at_end (other e) e xs ≡ []
at_other A xs = refl
at_other B xs = refl

pub record StepFacts (end : End) (input : Input) (m : Option ℕ) (before after : Near) : Type 0 where
  pub sent_own : sent_at end (steps_in after.common.moments)
      ≡ sent_at end (steps_in before.common.moments) ++ sent_in_step input before.side.station
  pub sent_far : sent_at (other end) (steps_in after.common.moments) ≡ sent_at (other end)
      (steps_in before.common.moments)
  pub front_own : (sent_by end (ways_after after.common.moments)).front ≡
      (sent_by end (ways_after before.common.moments)).front
  pub front_far : (sent_by (other end) (ways_after after.common.moments)).front
      ≡ (sent_by (other end) (hearing_at end m (ways_after before.common.moments))).front
  pub towards : after.side.towards ≡ before.side.towards
  pub matched : after.side.matched ≡ before.side.matched
  pub samples : after.side.samples ≡ before.side.samples
  pub keeps : AreMatched before.common.moments nothing_sent
      → IsMatched input m (sent_by (other end) (ways_after before.common.moments))
      → AreMatched after.common.moments nothing_sent

pub step_facts :
    (end : End) (input : Input) (m : Option ℕ) (before after : Near) → IsStep end input m before after
    → StepFacts end input m before after
step_facts end input m before after h =
    let step : Step = record {
      station = end;
      input = input;
      before = before.side.station;
      after = h.turn;
      turn = h.makes;
      octets = h.octets;
    } in
    let moments = before.common.moments in
    let ways = ways_after moments in
    let is : after.common.moments ≡ moments ++ Steps step m ∷ [] = ap (λ (n : Near). n.common.moments) h.is in
    let steps_are : steps_in after.common.moments ≡ steps_in moments ++ step ∷ [] = ap steps_in is
    ∙ steps_more moments step m in
    let ways_are : ways_after after.common.moments ≡ after_moment (Steps step m) ways =
    ap ways_after is ∙ moments_more moments (Steps step m) nothing_sent in
    let on = hears_ask input in
    let queue = h.turn.out.queued in
    let leaves = told_leaves h.turn.out.pieces _ in
    record {
      sent_own = ap (sent_at end) steps_are ∙ sent_more end (steps_in moments) step
          ∙ ap (λ xs. sent_at end (steps_in moments) ++ xs) (at_own end (sent_in_step input before.side.station));
      sent_far = ap (sent_at (other end)) steps_are ∙ sent_more (other end) (steps_in moments) step
          ∙ ap (λ xs. sent_at (other end) (steps_in moments) ++ xs)
          (at_other end (sent_in_step input before.side.station))
          ∙ append-nil (sent_at (other end) (steps_in moments));
      front_own = ap (λ (w : BothWays). (sent_by end w).front) ways_are
          ∙ ap (λ (w : OneWay). w.front) (stepped_own end on queue m ways);
      front_far = ap (λ (w : BothWays). (sent_by (other end) w).front) ways_are
          ∙ ap (λ (w : OneWay). w.front) (stepped_other end on queue m ways);
      towards = ap (λ (n : Near). n.side.towards) h.is ∙ leaves.towards;
      matched = ap (λ (n : Near). n.side.matched) h.is ∙ leaves.matched;
      samples = ap (λ (n : Near). n.side.samples) h.is ∙ leaves.samples;
      keeps = λ are one. subst (λ ms. AreMatched ms nothing_sent) (sym is)
          (matched_more moments (Steps step m) nothing_sent are one);
    }

-- ---- the kinds of steps

-- what comes from a host
pub host_step :
    (end : End) (input : Input) (own far_pending : Option Sent) (ticks : ℕ) (before after : Near) (far : SideState)
    → IsStep end input None before after → sent_in_step input before.side.station ≡ []
    → IsMatched input None (sent_by (other end) (ways_after before.common.moments))
    → Both end own far_pending ticks before.common.moments before.side far
    → Both end own far_pending ticks after.common.moments after.side far
host_step end input own far_pending ticks before after far h none is_matched both =
    let f = step_facts end input None before after h in
    record {
      here = way_same far_pending ticks _ _ _ _ _ _ _ _ _ _ f.sent_far
          (f.front_far ∙ ap (λ (w : OneWay). w.front)
          (hearing_none end (ways_after before.common.moments))) f.towards f.matched
          (ap length f.samples) both.here;
      there = way_same own ticks _ _ _ _ _ _ _ _ _ _
          (f.sent_own ∙ ap (λ xs. sent_at end (steps_in before.common.moments) ++ xs) none
          ∙ append-nil (sent_at end (steps_in before.common.moments))) f.front_own refl refl refl both.there;
      matched = f.keeps both.matched is_matched;
    }

-- a tick
pub clock_step :
    (end : End) (busy : Bool) (far_pending : Option Sent) (ticks : ℕ) (before after : Near) (far : SideState)
    → IsStep end (OfClock busy) None before after
    → ((s : Sent) → (air_of busy before.side.station).sent ≡ Some s → s.after ≤ 96)
    → Both end None far_pending ticks before.common.moments before.side far
    → Both end (air_of busy before.side.station).sent far_pending ticks after.common.moments after.side far
clock_step end busy far_pending ticks before after far h soon both =
    let f = step_facts end (OfClock busy) None before after h in
    let old = both.there in
    let sent = sent_octets (air_of busy before.side.station).sent in
    record {
      here = way_same far_pending ticks _ _ _ _ _ _ _ _ _ _ f.sent_far
          (f.front_far ∙ ap (λ (w : OneWay). w.front)
          (hearing_none end (ways_after before.common.moments))) f.towards f.matched
          (ap length f.samples) both.here;
      there = way_same
          (air_of busy before.side.station).sent ticks _ _ _ _ _ _ _ _ _ _ f.sent_own f.front_own refl refl refl
          (record {
            sent_is = ap (λ xs. xs ++ sent) (old.sent_is ∙ append-nil (map octets_at far.towards));
            soon = soon;
            rising = old.rising;
            matched_within = old.matched_within;
            front_within = old.front_within;
            past_matched = old.past_matched;
            passed = old.passed;
          });
      matched = f.keeps both.matched refl;
    }

-- ---- a frame that is heard

-- an element of a list by its image
image_there :
    {X Y : Type 0} (f : X → Y) (xs : List X) (k : ℕ) (y : Y) → slice_get (map f xs) k ≡ Some y
    → (x : X) × (slice_get xs k ≡ Some x) × (f x ≡ y)
image_there f xs k y is = go (slice_get xs k) refl
  where
    go : (o : Option _) → slice_get xs k ≡ o → (x : _) × (slice_get xs k ≡ Some x) × (f x ≡ y)
    go None at =
        let e : Some y ≡ None = sym is ∙ slice_get-map f xs k ∙ ap (option_map f) at in
        absurd (cc)
    go (Some x) at =
        let e : Some (f x) ≡ Some y = sym (slice_get-map f xs k ∙ ap (option_map f) at) ∙ is in
        (x, at, (let same : f x ≡ y = cc in same))

-- the frame of a number, as it was queued
queued_there :
    (sender : End) (moments : List Moment) (s : StationState) (pending : Option Sent) (towards : List SentAt)
    (number : ℕ) (sent : SentAt)
    → InOrder sender (steps_in moments) s
    → sent_at sender (steps_in moments) ≡ map octets_at towards ++ sent_octets pending
    → slice_get towards number ≡ Some sent
    → slice_get (octets_in (sent_by sender (ways_after moments)).queued) number ≡ Some sent.octets
queued_there sender moments s pending towards number sent order is there =
    let ended : slice_get (map octets_at towards) number ≡ Some sent.octets =
    slice_get-map octets_at towards number ∙ ap (option_map octets_at) there in
    let was_sent = still_there (map octets_at towards) (sent_octets pending) number sent.octets ended in
    let waiting = map octets_of s.channel.waiting in
    let all = still_there (map octets_at towards ++ sent_octets pending) waiting number sent.octets was_sent in
    ap (λ xs. slice_get xs number) (queued_is sender moments ∙ order.order ∙ ap (λ xs. xs ++ waiting) is) ∙ all

-- it is in flight
pub in_flight_there :
    (sender : End) (moments : List Moment) (s : StationState) (pending : Option Sent) (ticks : ℕ)
    (towards : List SentAt)
    (matched samples number : ℕ) (item : Candidate) → InOrder sender (steps_in moments) s
    → WayHolds pending (sent_at sender (steps_in moments))
    (sent_by sender (ways_after moments)).front ticks towards matched samples
    → 96 * ticks ≤ item.end + 7 → IsMatchAt item matched towards number
    → IsInFlight item.octets number (sent_by sender (ways_after moments))
in_flight_there sender moments s pending ticks towards matched samples number item order way late m =
    let front = (sent_by sender (ways_after moments)).front in
    let frame = image_there (λ (f : LinkFrame). f.octets)
    (sent_by sender (ways_after moments)).queued number m.sent.octets
    (queued_there sender moments s pending towards number m.sent order way.sent_is m.is_there) in
    record { ahead = ahead (cases_lt number front); frame = frame.0; is_there = frame.1; same = frame.2 ∙ m.octets }
  where
    not_passed : ((x : SentAt) → slice_get towards number ≡ Some x → x.end + 23 ≤ 96 * ticks) → ⊥
    not_passed passed =
        let before = passed m.sent m.is_there in
        far_off m.sent.end item.end (96 * ticks) before late m.late
      where
        far_off : (a b c : ℕ) → a + 23 ≤ c → c ≤ b + 7 → b < a + 8 → ⊥
        far_off a b c before late soon = omega (arith, before, late, soon)

    ahead : (number < (sent_by sender (ways_after moments)).front) ⊎
        ((sent_by sender (ways_after moments)).front ≤ number)
        → (sent_by sender (ways_after moments)).front ≤ number
    ahead (inr above) = above
    ahead (inl below) = by_passing (way.passed number below)
      where
        by_passing : (number < matched) ⊎ ((x : SentAt) → slice_get towards number ≡ Some x → x.end + 23 ≤ 96 * ticks)
            → (sent_by sender (ways_after moments)).front ≤ number
        by_passing (inl early) = let from = m.from in absurd (omega (arith, early, from))
        by_passing (inr passed) = absurd (not_passed passed)

-- So is the one that is on its way.
frame_by : (octets : List ℕ) (o : Option LinkFrame) → is_frame_of octets o ≡ true
    → (frame : LinkFrame) × (o ≡ Some frame) × (frame.octets ≡ octets)
frame_by octets None is = absurd (false≢true is)
frame_by octets (Some frame) is = (frame, refl, (bytes_eq-Decides frame.octets octets).0 is)

pub coming_there :
    (pending : Option Sent) (sent : List (List ℕ)) (way : OneWay) (ticks : ℕ) (towards : List SentAt)
    (matched samples : ℕ) (octets : List ℕ) → WayHolds pending sent way.front ticks towards matched samples
    → matched ≤ length towards → is_frame_of octets (slice_get way.queued (length towards)) ≡ true
    → IsInFlight octets (length towards) way
coming_there pending sent way ticks towards matched samples octets h few is =
    let frame = frame_by octets (slice_get way.queued (length towards)) is in
    record { ahead = ahead h.front_within; frame = frame.0; is_there = frame.1; same = frame.2 }
  where
    ahead : (way.front ≤ length towards) ⊎ (way.front ≤ matched) → way.front ≤ length towards
    ahead (inl within) = within
    ahead (inr past) = omega (arith, past, few)

pub heard_step :
    (end : End) (own far_pending : Option Sent) (ticks number : ℕ) (item : Candidate) (before after : Near)
    (far : SideState)
    → IsStep end (OffAir item.octets) (Some number)
    (record before { side = record before.side { matched = number + 1 } }) after
    → number ≤ length before.side.towards
    → IsInFlight item.octets number (sent_by (other end) (ways_after before.common.moments))
    → Both end own far_pending ticks before.common.moments before.side far
    → Both end own far_pending ticks after.common.moments after.side far
heard_step end own far_pending ticks number item before after far h within flies both =
    let f = step_facts end (OffAir item.octets) (Some number)
    (record before { side = record before.side { matched = number + 1 } }) after h in
    let old = both.here in
    let way = sent_by (other end) (ways_after before.common.moments) in
    let top : max way.front (number + 1) ≤ number + 1 = max-le (let ahead = flies.ahead in omega (arith, ahead))
    (omega arith) in
    record {
      here = way_same far_pending ticks _ _ _ _ _ _ _ _ _ _ f.sent_far
          (f.front_far ∙ ap (λ (w : OneWay). w.front)
          (hearing_one end number (ways_after before.common.moments))) f.towards f.matched
          (ap length f.samples) (record {
            sent_is = old.sent_is;
            soon = old.soon;
            rising = old.rising;
            matched_within = omega (arith, within);
            front_within = inr top;
            past_matched = le-max_right way.front (number + 1);
            passed = λ k below. inl (omega (arith, below, top));
          });
      there = way_same own ticks _ _ _ _ _ _ _ _ _ _
          (f.sent_own ∙ append-nil
          (sent_at end (steps_in before.common.moments))) f.front_own refl refl refl both.there;
      matched = f.keeps both.matched flies;
    }

-- ---- the channel

-- what a station sends has reached the other
pub way_sounded :
    (pending : Option Sent) (sent : List (List ℕ)) (front ticks : ℕ) (towards : List SentAt) (matched samples : ℕ)
    (ended : List SentAt) (more : ℕ)
    → samples ≡ 96 * ticks → more ≡ samples + 96 → ended ≡ sent_in ticks pending
    → WayHolds pending sent front ticks towards matched samples
    → WayHolds None sent front ticks (towards ++ ended) matched more
way_sounded pending sent front ticks towards matched samples ended more now later is h =
    subst (λ e. WayHolds None sent front ticks (towards ++ e) matched more) (sym is) (go pending h.sent_is h.soon)
  where
    go : (p : Option Sent) → sent ≡ map octets_at towards ++ sent_octets p → ((s : Sent) → p ≡ Some s → s.after ≤ 96)
        → WayHolds None sent front ticks (towards ++ sent_in ticks p) matched more
    go None sent_is soon = record {
      sent_is = sent_is ∙ ap (λ xs. map octets_at xs ++ []) (sym (append-nil towards));
      soon = λ s same. absurd (cc);
      rising = subst (λ t. Rising 0 t more) (sym (append-nil towards))
          (rising_later 0 towards samples more h.rising (omega (arith, later)));
      matched_within = subst (λ t. matched ≤ length t + 1) (sym (append-nil towards)) h.matched_within;
      front_within = subst (λ t. (front ≤ length t) ⊎ (front ≤ matched)) (sym (append-nil towards)) h.front_within;
      past_matched = h.past_matched;
      passed = subst (λ t. (k : ℕ) → k < front
          → (k < matched) ⊎ ((s : SentAt) → slice_get t k ≡ Some s → s.end + 23 ≤ 96 * ticks))
          (sym (append-nil towards)) h.passed;
    }
    go (Some x) sent_is soon =
        let at : SentAt = record { octets = x.octets; end = 96 * ticks + x.after } in
        let few = soon x refl in
        let size = length-append towards (at ∷ []) in
        record {
          sent_is = sent_is ∙ sym (append-nil (map octets_at towards ++ x.octets ∷ []))
              ∙ ap (λ xs. xs ++ []) (sym (map-append octets_at towards (at ∷ [])));
          soon = λ s same. absurd (cc);
          rising = rising_more 0 towards samples at more h.rising (omega (arith, now)) (omega (arith, now, later, few));
          matched_within = let within = h.matched_within in omega (arith, size, within);
          front_within = longer size h.front_within;
          past_matched = h.past_matched;
          passed = λ k below. old k below h.front_within (h.passed k below);
        }
      where
        at_end_of : SentAt
        at_end_of = record { octets = x.octets; end = 96 * ticks + x.after }

        earlier : (k : ℕ) (s : SentAt) → k < length towards → slice_get (towards ++ at_end_of ∷ []) k ≡ Some s
            → slice_get towards k ≡ Some s
        earlier k s within is =
            let d = get_or towards k at_end_of in
            let there : slice_get towards k ≡ Some d = slice_get-get_or towards k at_end_of within in
            there ∙ sym (still_there towards (at_end_of ∷ []) k d there) ∙ is

        longer : length (towards ++ at_end_of ∷ []) ≡ length towards + 1
            → (front ≤ length towards) ⊎ (front ≤ matched)
            → (front ≤ length (towards ++ at_end_of ∷ [])) ⊎ (front ≤ matched)
        longer size (inl within) = inl (omega (arith, size, within))
        longer size (inr past) = inr past

        old : (k : ℕ) → k < front → (front ≤ length towards) ⊎ (front ≤ matched)
            → (k < matched) ⊎ ((s : SentAt) → slice_get towards k ≡ Some s → s.end + 23 ≤ 96 * ticks)
            → (k < matched) ⊎ ((s : SentAt) → slice_get (towards ++ at_end_of ∷ []) k ≡ Some s
            → s.end + 23 ≤ 96 * ticks)
        old k below at (inl early) = inl early
        old k below (inr past) (inr passed) = inl (omega (arith, below, past))
        old k below (inl within) (inr passed) = inr (λ s is. passed s (earlier k s (omega (arith, below, within)) is))

-- the end of a tick: what the marks have passed is in flight no longer
pub way_closed :
    (sent : List (List ℕ)) (front front' ticks : ℕ) (towards : List SentAt) (matched samples : ℕ)
    → samples ≡ 96 * (ticks + 1)
    → front' ≡ max front (matched + count_by (has_passed (samples - 7)) (drop matched towards))
    → WayHolds None sent front ticks towards matched samples
    → WayHolds None sent front' (ticks + 1) towards matched samples
way_closed sent front front' ticks towards matched samples now is h = record {
  sent_is = h.sent_is;
  soon = h.soon;
  rising = h.rising;
  matched_within = h.matched_within;
  front_within = subst (λ f. (f ≤ length towards) ⊎ (f ≤ matched)) (sym is)
      (by_matched (cases_lt (length towards) matched) h.front_within);
  past_matched = subst (λ f. matched ≤ f) (sym is)
      (further matched front (max front count) h.past_matched (le-max_left front count));
  passed = λ k below. by_front k (cases_lt k front) (cases_lt k matched) (subst (λ f. k < f) is below);
}
  where
    count : ℕ
    count = matched + count_by (has_passed (samples - 7)) (drop matched towards)

    further : (a b c : ℕ) → a ≤ b → b ≤ c → a ≤ c
    further a b c first second = omega (arith, first, second)

    by_matched : (length towards < matched) ⊎ (matched ≤ length towards) → (front ≤ length towards) ⊎ (front ≤ matched)
        → (max front count ≤ length towards) ⊎ (max front count ≤ matched)
    by_matched (inr few) (inl within) = inl (max-le within (counted_within (samples - 7) matched towards few))
    by_matched (inr few) (inr past) =
        inl (max-le (omega (arith, past, few)) (counted_within (samples - 7) matched towards few))
    by_matched (inl more) (inl within) =
        inr (max-le (omega (arith, within, more)) (none_counted (samples - 7) matched towards more))
    by_matched (inl more) (inr past) = inr (max-le past (none_counted (samples - 7) matched towards more))

    longer : (k : ℕ) → (k < matched) ⊎ ((s : SentAt) → slice_get towards k ≡ Some s → s.end + 23 ≤ 96 * ticks)
        → (k < matched) ⊎ ((s : SentAt) → slice_get towards k ≡ Some s → s.end + 23 ≤ 96 * (ticks + 1))
    longer k (inl early) = inl early
    longer k (inr passed) = inr (λ s at. let p = passed s at in omega (arith, p))

    below_count : (k f c : ℕ) → k < max f c → f ≤ k → k < c
    below_count k f c less above = go (cases_lt k c)
      where
        go : (k < c) ⊎ (c ≤ k) → k < c
        go (inl less_than) = less_than
        go (inr at_least) = let top : max f c ≤ k = max-le above at_least in absurd (omega (arith, less, top))

    by_front : (k : ℕ) → (k < front) ⊎ (front ≤ k) → (k < matched) ⊎ (matched ≤ k) → k < max front count
        → (k < matched) ⊎ ((s : SentAt) → slice_get towards k ≡ Some s → s.end + 23 ≤ 96 * (ticks + 1))
    by_front k (inl old) m below = longer k (h.passed k old)
    by_front k (inr new) (inl early) below = inl early
    by_front k (inr new) (inr late) below =
        let counted = passed_counted (samples - 7) matched towards samples k h.rising late
        (below_count k front count below new) in
        inr (λ s at. let p = counted s at in omega (arith, p, now))
