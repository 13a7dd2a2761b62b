-- Of the frames that a step queues as many ask for an answer as its events sent that joined the queue, at least. This
-- is seen by pairs that name all of them: then all are in flight.
use Rattle.station_laws.proofs.Common.{◌≡◌, ℕ, zero, suc, ◌+◌, ◌<◌, ◌≤◌, ◌==◌, Bool, true, List, [], ◌∷◌, ◌++◌, length}
use Rattle.station_laws.proofs.Common.{take, drop, Option, Some, None, refl, sym, ap, ◌∙◌, subst, arith, slice_get}
use Rattle.station_laws.proofs.Common.{count_by, le-max_left, le-max_right, eq-eqb, or_left, or_right, append-nil}
use Rattle.station_laws.proofs.Common.{append_assoc, Callsign, Path, Params, modulus_named, End, kept, near_made}
use Rattle.station_laws.proofs.Common.{near_kept, Tagged, asks_in, World, Side, near_turn, other, frame_octets}
use Rattle.station_laws.proofs.Common.{is_between, StationState, Pair, AreHeardInOrder, LinkFrame, hears_ask, Step}
use Rattle.station_laws.proofs.Common.{is_from_to, is_named, marks_from, event_at_end, LinkStep, steps_of}
use Rattle.std.specs.Prelude.{max}
use Rattle.std.specs.List.{AllByRecursion as Each}
use Rattle.std.proofs.Math.Seq.{drop-append_seam}
use Rattle.std.proofs.lemmas.Bool.{and_from}
use Rattle.station_laws.specs.InFlight.{asks}
use Rattle.station_laws.specs.LinkInFlight.{asks_from_to}
use Rattle.station_laws.proofs.Acts.{is_asking}
use Rattle.station_laws.proofs.Addresses.{frame_spelled}
use Rattle.station_laws.proofs.Along.{makes_near, near_by, near_all}
use Rattle.station_laws.proofs.Controls.{ToldByOctets, told_by_octets}
use Rattle.station_laws.proofs.Counts.{Tells, flight_count}
use Rattle.station_laws.proofs.Flights.{RiseFrom, flight, flight_past, marks, marks_as_map, rise_lower}
use Rattle.station_laws.proofs.Framed.{framed, frames_at}
use Rattle.station_laws.proofs.JointLaw.{step_rising}
use Rattle.station_laws.proofs.LinkFrames.{from_to_path}
use Rattle.station_laws.proofs.NearQuiet.{sent_near, joined_near, made_far}
use Rattle.station_laws.proofs.Runs.{Between, Sent, Stepped, each_right}
use Rattle.station_laws.proofs.Tags.{IsTagged, tags_length}

-- ---- what an end sends does not depend on what is in flight from it

abbrev world_of_sides : Side → Side → World
world_of_sides a b = record { a = a; b = b }

same_sent : (e : End) (step : LinkStep) (w v : World) → w.a ≡ v.a → sent_near e step w ≡ sent_near e step v
same_sent e step w v is = go step.anew
  where
    go : (anew : Option Path)
        → (near_turn (event_at_end e step.event) (makes_near anew w)).sent
        ≡ (near_turn (event_at_end e step.event) (makes_near anew v)).sent
    go None = ap (λ (side : Side). (near_turn (event_at_end e step.event) (world_of_sides side w.b)).sent) is
    go (Some path) =
        ap (λ (side : Side). (near_turn (event_at_end e step.event) (near_made path (world_of_sides side w.b))).sent) is

same_by :
    (e : End) (pairs others : List Pair) (n : ℕ) (step : LinkStep) (w v : World) → w.a ≡ v.a
    → (near_by e pairs n step w).a ≡ (near_by e others n step v).a
same_by e pairs others n step w v is = go step.anew
  where
    ms : List Bool
    ms = marks_from pairs (n + step.first) step.joined

    ks : List Bool
    ks = marks_from others (n + step.first) step.joined

    go : (anew : Option Path)
        → (near_kept (event_at_end e step.event) ms (makes_near anew w)).a
        ≡ (near_kept (event_at_end e step.event) ks (makes_near anew v)).a
    go None = ap (λ (side : Side). (near_kept (event_at_end e step.event) [] (world_of_sides side w.b)).a) is
    go (Some path) =
        ap (λ (side : Side). (near_kept (event_at_end e step.event) [] (near_made path (world_of_sides side w.b))).a) is

joined_same :
    (e : End) (pairs others : List Pair) (n : ℕ) (steps : List LinkStep) (w v : World) → w.a ≡ v.a
    → joined_near e pairs n steps w ≡ joined_near e others n steps v
joined_same e pairs others n [] w v is = refl
joined_same e pairs others n (step ∷ steps) w v is =
    ap (λ xs. take step.joined xs ++ joined_near e pairs n steps (near_by e pairs n step w)) (same_sent e step w v is)
    ∙ ap (λ ys. take step.joined (sent_near e step v) ++ ys)
    (joined_same e pairs others n steps (near_by e pairs n step w) (near_by e others n step v)
    (same_by e pairs others n step w v is))

-- ---- pairs that name all

abbrev all_named : (heard sent count : ℕ) → List Pair
all_named h s zero = []
all_named h s (suc count) = (record { heard = h; sent = s }) ∷ all_named (h + 1) (s + 1) count

named_rise : (h s count : ℕ) → RiseFrom h s (all_named h s count)
named_rise h s zero = tt
named_rise h s (suc count) = (omega arith, omega arith, named_rise (h + 1) (s + 1) count)

named_from : (low h s count : ℕ) → low ≤ s → Each (λ (p : Pair). low ≤ p.sent) (all_named h s count)
named_from low h s zero less = tt
named_from low h s (suc count) less = (less, named_from low (h + 1) (s + 1) count (omega arith))

is_there : (h s count k : ℕ) → k < count → is_named (all_named h s count) (s + k) ≡ true
is_there h s zero k less = absurd (omega arith)
is_there h s (suc count) zero less =
    or_left (s == s + 0) (is_named (all_named (h + 1) (s + 1) count) (s + 0)) (eq-eqb s (s + 0) (omega arith))
is_there h s (suc count) (suc k) less =
    let next : s + 1 + k ≡ s + suc k = omega arith in
    or_right (s == s + suc k) (is_named (all_named (h + 1) (s + 1) count) (s + suc k))
    (ap (is_named (all_named (h + 1) (s + 1) count)) (sym next) ∙ is_there (h + 1) (s + 1) count k (omega arith))

kept_named :
    (ps : List Pair) (m count : ℕ) (fs : List Tagged) → ((k : ℕ) → k < count → is_named ps (m + k) ≡ true)
    → kept (marks ps m count) fs ≡ take count fs
kept_named ps m zero fs named = refl
kept_named ps m (suc count) [] named = refl
kept_named ps m (suc count) (f ∷ fs) named =
    let first : m + 0 ≡ m = omega arith in
    ap (λ b. kept (b ∷ marks ps (m + 1) count) (f ∷ fs)) (ap (is_named ps) (sym first) ∙ named 0 (omega arith))
    ∙ ap (λ xs. f ∷ xs) (kept_named ps (m + 1) count fs (λ k less.
    let next : m + 1 + k ≡ m + (k + 1) = omega arith in
    ap (is_named ps) next ∙ named (k + 1) (omega arith)))

-- how far the events of a step queue
abbrev reach : List LinkStep → ℕ
reach [] = 0
reach (step ∷ steps) = max (step.first + step.joined) (reach steps)

abbrev KeepsAll : List Pair → ℕ → LinkStep → Type 0
KeepsAll ps n step = (fs : List Tagged) → kept (marks_from ps (n + step.first) step.joined) fs ≡ take step.joined fs

all_kept :
    (h n count : ℕ) (steps : List LinkStep) → reach steps ≤ count → Each (KeepsAll (all_named h n count) n) steps
all_kept h n count [] low = tt
all_kept h n count (step ∷ steps) low =
    let one = le-max_left (step.first + step.joined) (reach steps) in
    let more = le-max_right (step.first + step.joined) (reach steps) in
    let ps = all_named h n count in
    let m = n + step.first in (
      (λ fs.
          let same : m + 0 ≡ m = omega arith in
          ap (λ ms. kept ms fs) (marks_as_map ps m 0 step.joined ∙ ap (λ i. marks ps i step.joined) same)
          ∙ kept_named ps m step.joined fs (λ k less.
          let at : n + (step.first + k) ≡ m + k = omega arith in
          ap (is_named ps) (sym at) ∙ is_there h n count (step.first + k) (omega arith))),
      all_kept h n count steps (omega arith),
    )

towards_named :
    (e : End) (ps : List Pair) (n : ℕ) (steps : List LinkStep) (w : World) → Each (KeepsAll ps n) steps
    → (near_all e ps n steps w).b.towards ≡ w.b.towards ++ joined_near e ps n steps w
towards_named e ps n [] w keeps = sym (append-nil w.b.towards)
towards_named e ps n (step ∷ steps) w keeps =
    let next = near_by e ps n step w in
    let sent = sent_near e step w in
    let rest = joined_near e ps n steps next in
    let here : next.b.towards ≡ w.b.towards ++ take step.joined sent =
    ap (λ (x : Side). x.towards ++ kept (marks_from ps (n + step.first) step.joined) sent) (made_far step.anew w)
    ∙ ap (λ fs. w.b.towards ++ fs) (keeps.0 sent) in
    towards_named e ps n steps next keeps.1 ∙ ap (λ fs. fs ++ rest) here
    ∙ append_assoc w.b.towards (take step.joined sent) rest

-- ---- frames in flight tell what was queued

pub told_tagged :
    (l r : Callsign) (f : Tagged) (q : LinkFrame) → IsTagged l r f q → ToldByOctets q.octets f.frame.kind
told_tagged l r f q tag =
    let spelled = frame_spelled (modulus_named f.modulus) f.frame tag.path in
    subst (λ o. ToldByOctets o f.frame.kind) (sym tag.spelled)
    (told_by_octets (modulus_named f.modulus) f.frame.kind (frame_octets (modulus_named f.modulus) f.frame)
    f.frame.path _
    spelled.begins spelled.body)

-- and are frames between the calls of the link
pub tagged_between : (l r : Callsign) (f : Tagged) (q : LinkFrame) → IsTagged l r f q → is_from_to l r q.octets ≡ true
tagged_between l r f q tag =
    let spelled = frame_spelled (modulus_named f.modulus) f.frame tag.path in
    subst (λ o. is_from_to l r o ≡ true) (sym tag.spelled)
    (subst (λ source. is_from_to source r (frame_octets (modulus_named f.modulus) f.frame) ≡ true) tag.source
    (subst (λ dest. is_from_to f.frame.path.source dest (frame_octets (modulus_named f.modulus) f.frame) ≡ true)
    tag.dest
    (from_to_path (frame_octets (modulus_named f.modulus) f.frame) f.frame.path _ spelled.begins)))

pub asks_told : (l r : Callsign) → Tells l r is_asking (asks_from_to l r)
asks_told l r f q tag asking =
    and_from (is_from_to l r q.octets) (asks q) (tagged_between l r f q tag) ((told_tagged l r f q tag).ask ∙ asking)

-- pairs that rise, from a higher number on
pub rise_higher :
    (h s t : ℕ) (ps : List Pair) → RiseFrom h s ps → Each (λ (p : Pair). t ≤ p.sent) ps → RiseFrom h t ps
rise_higher h s t [] rises low = tt
rise_higher h s t (p ∷ ps) rises low = (rises.0, low.0, rises.2)

-- ---- the asks of a step

pub asks_joined :
    (e : End) (l r : Callsign) (pa pb : Params) (n : ℕ) (sb : StationState) (qa qb : List LinkFrame)
    (out_pairs back_pairs : List Pair) (w : World) (full : List Step) (step : Step)
    → Between l r pa pb n step.before sb qa qb out_pairs back_pairs w → step.station ≡ e → slice_get full n ≡ Some step
    → frames_at (other e) (take n full) ≡ qb → AreHeardInOrder l r e full back_pairs
    → asks_in (joined_near e out_pairs (length qa) (steps_of (is_between l r) step) w)
    ≤ count_by (asks_from_to l r) (framed (hears_ask step.input) step.after.out.queued)
asks_joined e l r pa pb n sb qa qb out_pairs back_pairs w full step h station is queue back_order =
    let steps = steps_of (is_between l r) step in
    let joined = framed (hears_ask step.input) step.after.out.queued in
    let count = reach steps in
    let ps = all_named (n + 1) (length qa) count in
    let rises : RiseFrom (n + 1) (length qa) ps = named_rise (n + 1) (length qa) count in
    let v : World = record w { b = record w.b { towards = [] } } in
    let size = tags_length l r h.out.tags qa h.out.tagged in
    let all : Between l r pa pb n step.before sb qa qb ps back_pairs v = record {
      near = h.near;
      far = h.far;
      out = record {
        done = [];
        rest = ps;
        split = refl;
        rises = rise_lower (n + 1) n (length qa) 0 ps (omega arith) (omega arith) rises;
        below = tt;
        before = tt;
        tags = h.out.tags;
        tagged = h.out.tagged;
        ahead = sym (flight_past h.out.tags (n + 1) (length qa) ps (omega arith) rises);
      };
      back = h.back;
    } in
    let done : Stepped e (hears_ask step.input) l r pa pb n sb qa qb ps back_pairs v step.after steps =
    step_rising e l r pa pb n sb qa qb ps back_pairs v full step all
    (rise_lower (n + 1) (n + 1) (length qa) 0 ps (omega arith) (omega arith) rises) station is queue back_order in
    let out : Sent l r (qa ++ joined) ps (n + 1) (near_all e ps (length qa) steps v).b.towards = done.between.out in
    let low : Each (λ (p : Pair). length qa ≤ p.sent) out.rest =
    each_right (λ (p : Pair). length qa ≤ p.sent) out.done out.rest
    (subst (λ xs. Each (λ (p : Pair). length qa ≤ p.sent) xs) out.split
    (named_from (length qa) (n + 1) (length qa) count (omega arith))) in
    let fits = flight_count l r is_asking (asks_from_to l r) (asks_told l r) out.tags (qa ++ joined) out.tagged (n + 1) (length qa)
    out.rest
    (rise_higher (n + 1) 0 (length qa) out.rest out.rises low) in
    let towards : joined_near e out_pairs (length qa) steps w ≡ (near_all e ps (length qa) steps v).b.towards =
    joined_same e out_pairs ps (length qa) steps w v refl
    ∙ sym (towards_named e ps (length qa) steps v (all_kept (n + 1) (length qa) count steps (omega arith))) in
    let left : asks_in (joined_near e out_pairs (length qa) steps w) ≡ count_by is_asking (flight out.tags out.rest) =
    ap asks_in (towards ∙ out.ahead) in
    let right : count_by (asks_from_to l r) (drop (length qa) (qa ++ joined)) ≡ count_by (asks_from_to l r) joined =
    ap (λ xs. count_by (asks_from_to l r) xs) (drop-append_seam qa joined) in
    omega arith
