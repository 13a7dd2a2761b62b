-- The law on any two stations: over a joint run that is heard in order, the two ends of a link follow it, so that the
-- law of two links is the law of what the stations did.
use Rattle.station_laws.proofs.Common.{◌≡◌, ℕ, zero, suc, ◌+◌, ◌<◌, ◌≤◌, Bool, List, [], ◌∷◌, ◌++◌, length, take}
use Rattle.station_laws.proofs.Common.{Option, Some, None, refl, sym, ap, ◌∙◌, subst, arith, AllPairs, slice_get, ⊤}
use Rattle.station_laws.proofs.Common.{append-nil, append_assoc, length-append, slice_get-get_or, get_or-append_seam}
use Rattle.station_laws.proofs.Common.{take-append_seam, Callsign, Params, new_machine, End, A, B, ChangesLaw}
use Rattle.station_laws.proofs.Common.{run_changes, Tagged, World, seen_from, other, Config, Link, is_between}
use Rattle.station_laws.proofs.Common.{most_links, StationState, new_station, Input, Step, Stations, new_stations}
use Rattle.station_laws.proofs.Common.{state_of, with_state, stepped, IsJointRun, all_stepped, at_end, Pair, RiseBoth}
use Rattle.station_laws.proofs.Common.{IsOffAir, HearsLinkFrame, AreHeardInOrder, LinkFrame, hears_ask, is_ask}
use Rattle.station_laws.proofs.Common.{FromHost, OffAir, OfClock, Calls, Pairs, Counts, link_at_end, count_at, heard_at}
use Rattle.station_laws.proofs.Common.{with_more, all_changes_by, changes_from, changes_of, FollowsAll, FollowsThrough}
use Rattle.station_laws.proofs.Common.{path_between, first_world, steps_of, IsMachineOf}
use Rattle.std.proofs.Common.{replicate}
use Rattle.std.specs.List.{AllByRecursion as Each}
use Rattle.station_laws.specs.StationsLaw.{AreEndsOf, FollowingLaw, StationsLaw}
use Rattle.station_laws.proofs.Along.{AllFollowNear, near_all, changes_seen, follow_seen, run_changes-append}
use Rattle.station_laws.proofs.Flights.{RiseFrom, flight_past}
use Rattle.station_laws.proofs.Framed.{framed, length-framed, frames_at, frames_more}
use Rattle.station_laws.proofs.Runs.{SideHolds, Sent, Between, Stepped, none_rises, none_heard, popped_by, setting_of}
use Rattle.station_laws.proofs.Runs.{perhaps_popped, takes}
use Rattle.station_laws.proofs.Standing.{IsGoodPlace}
use Rattle.station_laws.proofs.Tables.{NotChosen, none_chosen, one_of_none}

-- ---- a step of one station, in its run

off_air_asks : (input : Input) (octets : List ℕ) → IsOffAir input octets → hears_ask input ≡ is_ask octets
off_air_asks (FromHost event) octets off = absurd off
off_air_asks (OffAir heard) octets off = ap is_ask off
off_air_asks (OfClock busy) octets off = absurd off

not_other : (e : End) → e ≡ other e → ⊥
not_other A e = cc
not_other B e = cc

-- whatever pairs the frames that it queues have, if none of them is heard in this step
pub step_rising :
    (e : End) (l r : Callsign) (pa pb : Params) (n : ℕ) (sb : StationState) (qa qb : List LinkFrame)
    (out_pairs back_pairs : List Pair) (w : World) (full : List Step) (step : Step)
    (h : Between l r pa pb n step.before sb qa qb out_pairs back_pairs w) → RiseFrom (n + 1) 0 h.out.rest
    → step.station ≡ e → slice_get full n ≡ Some step → frames_at (other e) (take n full) ≡ qb
    → AreHeardInOrder l r e full back_pairs
    → Stepped e (hears_ask step.input) l r pa pb n sb qa qb out_pairs back_pairs w step.after
    (steps_of (is_between l r) step)
step_rising e l r pa pb n sb qa qb out_pairs back_pairs w full step h rises station is queue back_order =
    let setting = setting_of (hears_ask step.input) l r pa pb n step.before sb qa qb out_pairs back_pairs w h in
    takes (hears_ask step.input) l r pa pb n step.before sb qa qb out_pairs back_pairs w h e rises
    step.input step.after step.turn step.octets
    (λ never. none_heard e full back_pairs r l qb n w.a.towards step back_order.each is
    (λ octets hears. never octets hears.input hears.event) h.back)
    (λ octets off some own_frame.
    let hears : HearsLinkFrame e step octets = record { station = station; input = off; event = some } in
    popped_by setting e full back_pairs qb n
    w.a.towards step octets h.back.done h.back.rest h.back.tags back_order.each is hears
    (λ asking. off_air_asks step.input octets off ∙ asking) queue h.back.split h.back.rises h.back.below h.back.before
    h.back.tagged h.back.ahead (back_order.all n step octets is (record { link = hears; calls = own_frame })))
    (λ octets off some.
    perhaps_popped setting e full back_pairs qb n w.a.towards step octets back_order.each is
    (record { station = station; input = off; event = some })
    (λ asking. off_air_asks step.input octets off ∙ asking) queue h.back)

pub step_near :
    (e : End) (l r : Callsign) (pa pb : Params) (n : ℕ) (sb : StationState) (qa qb : List LinkFrame)
    (out_pairs back_pairs : List Pair) (w : World) (full : List Step) (step : Step)
    → Between l r pa pb n step.before sb qa qb out_pairs back_pairs w → step.station ≡ e
    → slice_get full n ≡ Some step → frames_at (other e) (take n full) ≡ qb
    → AreHeardInOrder r l (other e) full out_pairs → AreHeardInOrder l r e full back_pairs
    → Stepped e (hears_ask step.input) l r pa pb n sb qa qb out_pairs back_pairs w step.after
    (steps_of (is_between l r) step)
step_near e l r pa pb n sb qa qb out_pairs back_pairs w full step h station is queue out_order back_order =
    step_rising e l r pa pb n sb qa qb out_pairs back_pairs w full step h
    (none_rises (other e) full out_pairs l r qa n w.b.towards step out_order.each is
    (λ octets hears. not_other e (sym station ∙ hears.station)) h.out)
    station is queue back_order

-- ---- a step of either

pub mirror :
    (l r : Callsign) (pa pb : Params) (n : ℕ) (sa sb : StationState) (qa qb : List LinkFrame)
    (out_pairs back_pairs : List Pair) (w : World) → Between l r pa pb n sa sb qa qb out_pairs back_pairs w
    → Between r l pb pa n sb sa qb qa back_pairs out_pairs (seen_from B w)
mirror l r pa pb n sa sb qa qb out_pairs back_pairs w h =
    record { near = h.far; far = h.near; out = h.back; back = h.out }

pub record StepDone (calls : Calls) (pairs : Pairs) (a b : Params) (n : ℕ) (st : Stations) (past : List Step)
    (counts : Counts)
    (w : World) (step : Step) (e : End) : Type 0 where
  pub between : let next = with_state e step.after.now st in
      Between calls.a calls.b a b (n + 1) next.a next.b (frames_at A past
      ++ at_end A e (framed (hears_ask step.input) step.after.out.queued))
      (frames_at B past ++ at_end B e (framed (hears_ask step.input) step.after.out.queued)) pairs.at_b pairs.at_a
      (run_changes w (all_changes_by e pairs (count_at e counts) (steps_of (link_at_end calls e) step)))
  pub follows : FollowsAll e pairs (count_at e counts) (steps_of (link_at_end calls e) step) w
  -- as the end itself sees it
  pub stays : List Tagged
  pub near :
      AllFollowNear e stays (heard_at (other e) pairs) (count_at e counts) (steps_of (link_at_end calls e) step)
      (seen_from e w)

step_done :
    (calls : Calls) (pairs : Pairs) (a b : Params) (n : ℕ) (st : Stations) (past full : List Step) (counts : Counts)
    (w : World) (step : Step) (e : End)
    → Between calls.a calls.b a b n st.a st.b (frames_at A past) (frames_at B past) pairs.at_b pairs.at_a w
    → step.station ≡ e → step.before ≡ state_of e st → slice_get full n ≡ Some step → take n full ≡ past
    → counts.a ≡ length (frames_at A past) → counts.b ≡ length (frames_at B past)
    → AreHeardInOrder calls.a calls.b A full pairs.at_a → AreHeardInOrder calls.b calls.a B full pairs.at_b
    → StepDone calls pairs a b n st past counts w step e
step_done calls pairs a b n st past full counts w step A h station before is taken ca cb heard_a heard_b =
    let qa = frames_at A past in
    let qb = frames_at B past in
    let steps = steps_of (link_at_end calls A) step in
    let now : Between calls.a calls.b a b n step.before st.b qa qb pairs.at_b pairs.at_a w =
    subst (λ s. Between calls.a calls.b a b n s st.b qa qb pairs.at_b pairs.at_a w) (sym before) h in
    let done : Stepped A (hears_ask step.input) calls.a calls.b a b n st.b qa qb pairs.at_b pairs.at_a w step.after
    steps =
    step_near A calls.a calls.b a b n st.b qa qb pairs.at_b pairs.at_a w full step now station is
    (ap (frames_at B) taken) heard_b heard_a in
    let world : near_all A pairs.at_b (length qa) steps w ≡ run_changes w (all_changes_by A pairs (length qa) steps) =
    sym (changes_seen A pairs (length qa) steps w) in
    record {
      between = subst (λ k. Between calls.a calls.b a b (n + 1) step.after.now st.b
          (qa ++ framed (hears_ask step.input) step.after.out.queued) (qb ++ [])
          pairs.at_b pairs.at_a (run_changes w (all_changes_by A pairs k steps))) (sym ca)
          (subst (λ q. Between calls.a calls.b a b (n + 1) step.after.now st.b
          (qa ++ framed (hears_ask step.input) step.after.out.queued) q
          pairs.at_b pairs.at_a (run_changes w (all_changes_by A pairs (length qa) steps))) (sym (append-nil qb))
          (subst (Between calls.a calls.b a b (n + 1) step.after.now st.b
          (qa ++ framed (hears_ask step.input) step.after.out.queued) qb pairs.at_b pairs.at_a)
          world done.between));
      follows = subst (λ k. FollowsAll A pairs k steps w) (sym ca)
          (follow_seen A done.stays pairs (length qa) steps w done.follows);
      stays = done.stays;
      near = subst (λ k. AllFollowNear A done.stays pairs.at_b k steps w) (sym ca) done.follows;
    }
step_done calls pairs a b n st past full counts w step B h station before is taken ca cb heard_a heard_b =
    let qa = frames_at A past in
    let qb = frames_at B past in
    let steps = steps_of (link_at_end calls B) step in
    let now : Between calls.b calls.a b a n step.before st.a qb qa pairs.at_a pairs.at_b (seen_from B w) =
    subst (λ s. Between calls.b calls.a b a n s st.a qb qa pairs.at_a pairs.at_b (seen_from B w)) (sym before)
    (mirror calls.a calls.b a b n st.a st.b qa qb pairs.at_b pairs.at_a w h) in
    let done : Stepped B (hears_ask step.input) calls.b calls.a b a n st.a qb qa pairs.at_a pairs.at_b (seen_from B w)
    step.after steps =
    step_near B calls.b calls.a b a n st.a qb qa pairs.at_a pairs.at_b (seen_from B w) full step now station is
    (ap (frames_at A) taken) heard_a heard_b in
    let world : near_all B pairs.at_a (length qb) steps (seen_from B w)
    ≡ seen_from B (run_changes w (all_changes_by B pairs (length qb) steps)) =
    sym (changes_seen B pairs (length qb) steps w) in
    let next : World = run_changes w (all_changes_by B pairs (length qb) steps) in
    let there : Between calls.b calls.a b a (n + 1) step.after.now st.a
    (qb ++ framed (hears_ask step.input) step.after.out.queued) qa pairs.at_a pairs.at_b
    (seen_from B next) =
    subst (Between calls.b calls.a b a (n + 1) step.after.now st.a
    (qb ++ framed (hears_ask step.input) step.after.out.queued) qa pairs.at_a pairs.at_b)
    world done.between in
    let back : Between calls.a calls.b a b (n + 1) st.a step.after.now qa
    (qb ++ framed (hears_ask step.input) step.after.out.queued) pairs.at_b pairs.at_a next =
    record { near = there.far; far = there.near; out = there.back; back = there.out } in
    record {
      between = subst (λ k. Between calls.a calls.b a b (n + 1) st.a step.after.now (qa ++ [])
          (qb ++ framed (hears_ask step.input) step.after.out.queued)
          pairs.at_b pairs.at_a (run_changes w (all_changes_by B pairs k steps))) (sym cb)
          (subst (λ q. Between calls.a calls.b a b (n + 1) st.a step.after.now q
          (qb ++ framed (hears_ask step.input) step.after.out.queued)
          pairs.at_b pairs.at_a next) (sym (append-nil qa)) back);
      follows = subst (λ k. FollowsAll B pairs k steps w) (sym cb)
          (follow_seen B done.stays pairs (length qb) steps w done.follows);
      stays = done.stays;
      near = subst (λ k. AllFollowNear B done.stays pairs.at_a k steps (seen_from B w)) (sym cb) done.follows;
    }

-- ---- all steps

count_a :
    (e : End) (on : Bool) (queued : List (List ℕ)) (before : List LinkFrame) (counts : Counts)
    → counts.a ≡ length before
    → (with_more e (length queued) counts).a ≡ length (before ++ at_end A e (framed on queued))
count_a A on queued before counts is =
    let size = length-append before (framed on queued) in
    let same = length-framed on queued in
    omega arith
count_a B on queued before counts is = is ∙ sym (ap length (append-nil before))

count_b :
    (e : End) (on : Bool) (queued : List (List ℕ)) (before : List LinkFrame) (counts : Counts)
    → counts.b ≡ length before
    → (with_more e (length queued) counts).b ≡ length (before ++ at_end B e (framed on queued))
count_b A on queued before counts is = is ∙ sym (ap length (append-nil before))
count_b B on queued before counts is =
    let size = length-append before (framed on queued) in
    let same = length-framed on queued in
    omega arith

get_seam : (past : List Step) (step : Step) (rest : List Step)
    → slice_get (past ++ step ∷ rest) (length past) ≡ Some step
get_seam past step rest =
    let more : length (step ∷ rest) ≡ suc (length rest) = refl in
    let size = length-append past (step ∷ rest) in
    let within : length past < length (past ++ step ∷ rest) = omega arith in
    slice_get-get_or (past ++ step ∷ rest) (length past) step within ∙ ap Some (get_or-append_seam past step rest step)

-- what holds at a step of a run
pub record StepHolds (calls : Calls) (pairs : Pairs) (a b : Params) (full past : List Step) (st : Stations)
    (counts : Counts) (w : World) (step : Step) : Type 0 where
  pub before : step.before ≡ state_of step.station st
  pub there : slice_get full (length past) ≡ Some step
  pub taken : take (length past) full ≡ past
  pub count_at_a : counts.a ≡ length (frames_at A past)
  pub count_at_b : counts.b ≡ length (frames_at B past)
  pub between : Between calls.a calls.b a b (length past) st.a st.b (frames_at A past) (frames_at B past)
      pairs.at_b pairs.at_a w
  pub done : StepDone calls pairs a b (length past) st past counts w step step.station

-- what holds at each step of the rest of a run, and at its end
abbrev pub RunHolds :
    Calls → Pairs → Params → Params → List Step → List Step → Stations → Counts → World → List Step → Type 0
RunHolds calls pairs a b full past st counts w [] =
    Between calls.a calls.b a b (length past) st.a st.b (frames_at A past) (frames_at B past) pairs.at_b pairs.at_a w
RunHolds calls pairs a b full past st counts w (step ∷ rest) =
    StepHolds calls pairs a b full past st counts w step
    × RunHolds calls pairs a b full (past ++ step ∷ []) (stepped step st)
    (with_more step.station (length step.after.out.queued) counts)
    (run_changes w (all_changes_by step.station pairs (count_at step.station counts)
    (steps_of (link_at_end calls step.station) step))) rest

run_holds :
    (calls : Calls) (pairs : Pairs) (a b : Params) (full past rest : List Step) (st : Stations) (counts : Counts)
    (w : World) → full ≡ past ++ rest → IsJointRun st rest
    → counts.a ≡ length (frames_at A past) → counts.b ≡ length (frames_at B past)
    → AreHeardInOrder calls.a calls.b A full pairs.at_a → AreHeardInOrder calls.b calls.a B full pairs.at_b
    → Between calls.a calls.b a b (length past) st.a st.b (frames_at A past) (frames_at B past) pairs.at_b pairs.at_a w
    → RunHolds calls pairs a b full past st counts w rest
run_holds calls pairs a b full past [] st counts w is run ca cb heard_a heard_b h = h
run_holds calls pairs a b full past (step ∷ rest) st counts w is run ca cb heard_a heard_b h =
    let e = step.station in
    let on = hears_ask step.input in
    let queued = step.after.out.queued in
    let made = steps_of (link_at_end calls e) step in
    let changes = all_changes_by e pairs (count_at e counts) made in
    let next = run_changes w changes in
    let more = with_more e (length queued) counts in
    let longer = past ++ step ∷ [] in
    let at : slice_get full (length past) ≡ Some step = ap (λ xs. slice_get xs (length past)) is
    ∙ get_seam past step rest in
    let taken : take (length past) full ≡ past = ap (take (length past)) is ∙ take-append_seam past (step ∷ rest) in
    let one : StepDone calls pairs a b (length past) st past counts w step e =
    step_done calls pairs a b (length past) st past full counts w step e h refl run.0 at taken ca cb heard_a heard_b in
    let between : Between calls.a calls.b a b (length longer) (stepped step st).a (stepped step st).b
    (frames_at A longer)
    (frames_at B longer) pairs.at_b pairs.at_a next =
    subst (λ n. Between calls.a calls.b a b n (stepped step st).a (stepped step st).b (frames_at A longer)
    (frames_at B longer) pairs.at_b pairs.at_a next) (sym (length-append past (step ∷ [])))
    (subst (λ q. Between calls.a calls.b a b (length past + 1) (stepped step st).a (stepped step st).b q
    (frames_at B longer) pairs.at_b pairs.at_a next) (sym (frames_more A past step))
    (subst (λ q. Between calls.a calls.b a b (length past + 1) (stepped step st).a (stepped step st).b
    (frames_at A past ++ at_end A e (framed on queued)) q pairs.at_b pairs.at_a next) (sym (frames_more B past step))
    one.between)) in (
      record {
        before = run.0;
        there = at;
        taken = taken;
        count_at_a = ca;
        count_at_b = cb;
        between = h;
        done = one;
      },
      run_holds calls pairs a b full longer rest (stepped step st) more next
          (is ∙ sym (append_assoc past (step ∷ []) rest)) run.1
          (count_a e on queued (frames_at A past) counts ca ∙ sym (ap length (frames_more A past step)))
          (count_b e on queued (frames_at B past) counts cb ∙ sym (ap length (frames_more B past step)))
          heard_a heard_b between,
    )

-- ---- from two new stations

each_replicate : (P : Option Link → Type 0) (n : ℕ) → P None → Each P (replicate n None)
each_replicate P zero h = tt
each_replicate P (suc n) h = (h, each_replicate P n h)

length_replicate : (n : ℕ) → length (replicate n (let none : Option Link = None in none)) ≡ n
length_replicate zero = refl
length_replicate (suc n) = ap suc (length_replicate n)

new_side :
    (l r : Callsign) (config : Config) (seed : ℕ) (local remote : Callsign)
    → SideHolds l r config.params (new_station config seed) (new_machine (path_between local remote) config.params)
new_side l r config seed local remote =
    let chosen = is_between l r in
    let none : Each (NotChosen chosen) (replicate most_links None) =
    each_replicate (NotChosen chosen) most_links refl in
    record {
      parameters = refl;
      table = record {
        size = length_replicate most_links;
        good = each_replicate (IsGoodPlace config.params) most_links tt;
        one = one_of_none chosen (replicate most_links None) none;
        machine_is = subst (λ place. IsMachineOf place (new_machine (path_between local remote) config.params))
            (sym (none_chosen chosen (replicate most_links None) none)) refl;
      };
      end_params = refl;
    }

-- pairs that rise
abbrev HeadFrom : ℕ → ℕ → List Pair → Type 0
HeadFrom heard sent [] = ⊤
HeadFrom heard sent (p ∷ ps) = (heard ≤ p.heard) × (sent ≤ p.sent)

rises_of : (heard sent : ℕ) (ps : List Pair) → AllPairs RiseBoth ps → HeadFrom heard sent ps → RiseFrom heard sent ps
rises_of heard sent [] all head = tt
rises_of heard sent (p ∷ []) all head = (head.0, head.1, tt)
rises_of heard sent (p ∷ q ∷ ps) all head =
    let next : RiseBoth p q = all zero (suc zero) p (omega arith) (omega arith) in
    let one : p.heard < q.heard = next.0 in
    let two : p.sent < q.sent = next.1 in (
      head.0,
      head.1,
      rises_of (p.heard + 1) (p.sent + 1) (q ∷ ps)
          (λ i j d less within. all (suc i) (suc j) d (omega arith) (omega arith)) (omega arith, omega arith),
    )

from_zero : (ps : List Pair) → HeadFrom 0 0 ps
from_zero [] = tt
from_zero (p ∷ ps) = (omega arith, omega arith)

new_sent : (l r : Callsign) (pairs : List Pair) → AllPairs RiseBoth pairs → Sent l r [] pairs 0 []
new_sent l r pairs rise =
    let rises = rises_of 0 0 pairs rise (from_zero pairs) in
    record {
      done = [];
      rest = pairs;
      split = refl;
      rises = rises;
      below = tt;
      before = tt;
      tags = [];
      tagged = tt;
      ahead = sym (flight_past [] 0 0 pairs (omega arith) rises);
    }

pub new_run_holds :
    (a b : Config) (seed_a seed_b : ℕ) (steps : List Step) (calls : Calls) (pairs : Pairs)
    → let start = new_stations a seed_a b seed_b in
    IsJointRun start steps → AreHeardInOrder calls.a calls.b A steps pairs.at_a
    → AreHeardInOrder calls.b calls.a B steps pairs.at_b
    → RunHolds calls pairs a.params b.params steps [] start (record { a = 0; b = 0 })
    (first_world calls a.params b.params) steps
new_run_holds a b seed_a seed_b steps calls pairs run heard_a heard_b =
    run_holds calls pairs a.params b.params steps [] steps (new_stations a seed_a b seed_b) (record { a = 0; b = 0 })
    (first_world calls a.params b.params) refl run refl refl heard_a heard_b (record {
      near = new_side calls.a calls.b a seed_a calls.a calls.b;
      far = new_side calls.b calls.a b seed_b calls.b calls.a;
      out = new_sent calls.a calls.b pairs.at_b heard_b.rise;
      back = new_sent calls.b calls.a pairs.at_a heard_a.rise;
    })

-- ---- the ends follow

record RunDone (calls : Calls) (pairs : Pairs) (st : Stations) (counts : Counts) (w : World) (rest : List Step)
    : Type 0 where
  ends : let now = run_changes w (changes_from calls pairs counts rest) in
      AreEndsOf calls now.a.end.machine now.b.end.machine (all_stepped rest st)
  follows : FollowsThrough calls pairs counts rest w

run_done :
    (calls : Calls) (pairs : Pairs) (a b : Params) (full past rest : List Step) (st : Stations) (counts : Counts)
    (w : World) → RunHolds calls pairs a b full past st counts w rest → RunDone calls pairs st counts w rest
run_done calls pairs a b full past [] st counts w h = record {
  ends = record { at_a = h.near.table.machine_is; at_b = h.far.table.machine_is };
  follows = tt;
}
run_done calls pairs a b full past (step ∷ rest) st counts w h =
    let e = step.station in
    let changes = all_changes_by e pairs (count_at e counts) (steps_of (link_at_end calls e) step) in
    let more = with_more e (length step.after.out.queued) counts in
    let others : RunDone calls pairs (stepped step st) more (run_changes w changes) rest =
    run_done calls pairs a b full (past ++ step ∷ []) rest (stepped step st) more (run_changes w changes) h.1 in
    record {
      ends = subst (λ (now : World). AreEndsOf calls now.a.end.machine now.b.end.machine
          (all_stepped rest (stepped step st)))
          (sym (run_changes-append changes (changes_from calls pairs more rest) w)) others.ends;
      follows = (h.0.done.follows, others.follows);
    }

pub following_law_holds : FollowingLaw
following_law_holds a b seed_a seed_b steps calls pairs run heard_a heard_b =
    let start = new_stations a seed_a b seed_b in
    let done = run_done calls pairs a.params b.params steps [] steps start (record { a = 0; b = 0 })
    (first_world calls a.params b.params)
    (new_run_holds a b seed_a seed_b steps calls pairs run heard_a heard_b) in
    record { through = done.follows; after = done.ends }

-- the law, from the law of two links
pub stations_law_holds : ChangesLaw → StationsLaw
stations_law_holds law a b seed_a seed_b steps calls pairs run heard_a heard_b fit quiet =
    let order = law (path_between calls.a calls.b) (path_between calls.b calls.a) a.params b.params fit
    (changes_of calls pairs steps) quiet in
    record {
      got_a = order.a;
      got_b = order.b;
      numbers = order.numbers;
      ends = following_law_holds a b seed_a seed_b steps calls pairs run heard_a heard_b;
    }
