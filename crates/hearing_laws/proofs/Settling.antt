-- The settled position of lanes: it rises as they read on, and all that ends below it is heard.
use Rattle.std.proofs.Common.{◌≡◌, ℕ, ◌-◌, ◌^◌, ◌<◌, ◌≤◌, List, [], ◌∷◌, length, take, refl, ap, sym, subst, ◌∙◌, arith}
use Rattle.std.proofs.Common.{get_or}
use Rattle.std.specs.Prelude.{ℤ, Bool, true, false, fold, min, replicate}
use Rattle.std.proofs.Common.{le_refl}
use Rattle.std.proofs.lemmas.List.{get_or-map, get_or-take, length-map, length-take-le}
use Rattle.frame_merge.specs.declared.candidate.Candidate.{Candidate}
use Rattle.frame_merge.specs.Held.{least}
use Rattle.frame_merge.proofs.Taking.{le-least, least-each, least-one}
use Rattle.sample_ring.specs.declared.got.Got.{Got}
use Rattle.slicer_bank.specs.HeardOnRing.{lane_of, lane_positions, least_position}
use Rattle.slicer_bank.specs.Stretches.{position_after}
use Rattle.ring_receiver.specs.HeardByAll.{settled_position}
use Rattle.ring_receiver.specs.Readers.{readers_wanted}
use Rattle.hearing_laws.proofs.LaneLemmas.{IsWithin, decided_before}

-- ---- the least position

least_most : (marks : List ℕ) → least marks ≤ 2 ^ 64 - 1
least_most marks = go (2 ^ 64 - 1) marks
  where
    go : (a : ℕ) (xs : List ℕ) → fold min a xs ≤ a
    go a [] = le_refl a
    go a (x ∷ xs) = let rest = go (min a x) xs in omega arith

least_below : (lanes : List (List Got)) (lane : ℕ) → lane < length lanes
    → least_position lanes ≤ position_after (lane_of lanes lane)
least_below lanes lane within =
    let size = length-map lanes position_after in
    let le : least_position lanes ≤ get_or (lane_positions lanes) lane 0 =
    least-each (lane_positions lanes) lane 0 (omega arith) in
    let at : get_or (lane_positions lanes) lane 0 ≡ position_after (lane_of lanes lane) =
    get_or-map position_after lanes lane [] 0 within in
    omega arith

least_rises : (before now : List (List Got)) → length before ≡ length now
    → ((lane : ℕ) → lane < length now → position_after (lane_of before lane) ≤ position_after (lane_of now lane))
    → least_position before ≤ least_position now
least_rises before now count up =
    let size = length-map now position_after in
    le-least (least_position before) (lane_positions now) (least_most (lane_positions before)) (λ k d l.
    let within : k < length now = omega arith in
    let le : least_position before ≤ position_after (lane_of before k) = least_below before k (omega arith) in
    let more = up k within in
    let at : get_or (lane_positions now) k d ≡ position_after (lane_of now k) =
    get_or-map position_after now k [] d within in
    omega arith)

-- ---- of the first eight lanes

first_lane : (lanes : List (List Got)) (lane : ℕ) → lane < 8 → lane_of (take 8 lanes) lane ≡ lane_of lanes lane
first_lane lanes lane small = get_or-take 8 lanes lane [] small

first_below : (lanes : List (List Got)) (lane : ℕ) → length lanes ≡ 9 → lane < 8
    → least_position (take 8 lanes) ≤ position_after (lane_of lanes lane)
first_below lanes lane count small =
    let eight = length-take-le 8 lanes (omega arith) in
    let le = least_below (take 8 lanes) lane (omega arith) in
    let same : position_after (lane_of (take 8 lanes) lane) ≡ position_after (lane_of lanes lane) =
    ap position_after (first_lane lanes lane small) in
    omega arith

first_rises : (before now : List (List Got)) → length before ≡ 9 → length now ≡ 9
    → ((lane : ℕ) → lane < 9 → position_after (lane_of before lane) ≤ position_after (lane_of now lane))
    → least_position (take 8 before) ≤ least_position (take 8 now)
first_rises before now nine_before nine_now up =
    let eight_before = length-take-le 8 before (omega arith) in
    let eight_now = length-take-le 8 now (omega arith) in
    least_rises (take 8 before) (take 8 now) (omega arith) (λ lane l.
    let small : lane < 8 = omega arith in
    let was : position_after (lane_of (take 8 before) lane) ≡ position_after (lane_of before lane) =
    ap position_after (first_lane before lane small) in
    let is : position_after (lane_of (take 8 now) lane) ≡ position_after (lane_of now lane) =
    ap position_after (first_lane now lane small) in
    let more = up lane (omega arith) in
    omega arith)

-- ---- the settled position

pub settled_rises : (sensitive : Bool) (before now : List (List Got)) → length before ≡ readers_wanted sensitive
    → length now ≡ readers_wanted sensitive
    → ((lane : ℕ) → lane < readers_wanted sensitive
    → position_after (lane_of before lane) ≤ position_after (lane_of now lane))
    → settled_position sensitive before ≤ settled_position sensitive now
settled_rises false before now was is up =
    least_rises before now (was ∙ sym is) (λ lane l. up lane (subst (λ n. lane < n) is l))
settled_rises true before now was is up =
    let first = first_rises before now was is up in
    let ninth = up 8 (omega arith) in
    omega arith

pub settled_within : (sensitive : Bool) (x : List ℤ) (lanes : List (List Got)) (item : Candidate)
    → length lanes ≡ readers_wanted sensitive → item.end < settled_position sensitive lanes
    → IsWithin sensitive x lanes item
settled_within false x lanes item count before = λ h.
    let small = h.offset in
    let le = least_below lanes item.offset (omega arith) in
    omega arith
settled_within true x lanes item count before = (
  λ h. let le = first_below lanes item.offset count h.offset in omega arith,
  λ is. decided_before x item (position_after (lane_of lanes 8)) is (omega arith),
)

-- before the first turn nothing is settled
pub settled_at_first : (sensitive : Bool) → settled_position sensitive (replicate (readers_wanted sensitive) []) ≡ 0
settled_at_first false = least-one 7 0 (omega arith)
settled_at_first true =
    let first : least_position (take 8 (replicate 9 [])) ≡ 0 = least-one 7 0 (omega arith) in
    omega arith
