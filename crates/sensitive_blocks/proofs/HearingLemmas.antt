-- Lane after lane of an end, and tag after tag of a bit.
use Rattle.sensitive_blocks.proofs.Common.{◌≡◌, ℕ, ◌+◌, ◌*◌, ◌<◌, ℤ, List, ◌++◌, length, set, ◌∙◌}
use Rattle.sensitive_blocks.proofs.Common.{Heard, HasTakenBelow, HeldLane, LaneHasRead, ends, get_or, lane_certainties, lane_tones}
use Rattle.std.proofs.lemmas.List.{length-set}
use Rattle.sensitive_blocks.specs.declared.hearing.Moment.{Moment}
use Rattle.sensitive_blocks.specs.Held.{HeldFollower, LanesAreAt, LanesHaveRead}
use Rattle.sensitive_blocks.specs.Moments.{IsAt}
use Rattle.sensitive_blocks.proofs.LaneLemmas.{lane_after, lane_before, lanes_before}

-- the first lanes have read their bits of an end, and what ends with them was taken
pub record HaveHeard (moment : Moment) (follower : HeldFollower) (end : ℕ) (old now : List HeldLane)
    (kept given later more : List Heard) (n : ℕ) : Type 0 where
  pub size : length now ≡ 26
  pub read : (x : List ℤ) → IsAt moment follower end x → LanesHaveRead old end x → LanesAreAt n now end x
  pub heard : (x : List ℤ) (before : List Heard) → IsAt moment follower end x → LanesHaveRead old end x
      → HasTakenBelow end 0 kept x (before ++ given) → HasTakenBelow end (256 * n) later x (before ++ more)

pub heard_none : (moment : Moment) (follower : HeldFollower) (end : ℕ) (lanes : List HeldLane) (kept given : List Heard)
    → length lanes ≡ 26 → HaveHeard moment follower end lanes lanes kept given kept given 0
heard_none moment follower end lanes kept given size = record {
  size = size;
  read = λ x at h. lanes_before end lanes x h;
  heard = λ x before at h taken. taken;
}

pub heard_more : (moment : Moment) (follower : HeldFollower) (end : ℕ) (old now : List HeldLane) (was lane : HeldLane)
    (kept given later more last all : List Heard) (n : ℕ) → n < 26
    → HaveHeard moment follower end old now kept given later more n
    → ((x : List ℤ) → IsAt moment follower end x
    → LaneHasRead (get_or now n was) (lane_tones x n end) (lane_certainties x n end) (ends x n end)
    → LaneHasRead lane (lane_tones x n (end + 1)) (lane_certainties x n (end + 1)) (ends x n (end + 1)))
    → ((x : List ℤ) (before : List Heard) → IsAt moment follower end x
    → LaneHasRead (get_or now n was) (lane_tones x n end) (lane_certainties x n end) (ends x n end)
    → HasTakenBelow end (256 * n) later x (before ++ more)
    → HasTakenBelow end (256 * (n + 1)) last x (before ++ all))
    → HaveHeard moment follower end old (set now n lane) kept given last all (n + 1)
heard_more moment follower end old now was lane kept given later more last all n small h read hear = record {
  size = length-set now n lane ∙ h.size;
  read = λ x at start.
      let lanes = h.read x at start in
      lane_after end n now lane x h.size small (read x at (lane_before end n now was x small lanes)) lanes;
  heard = λ x before at start taken.
      hear x before at (lane_before end n now was x small (h.read x at start)) (h.heard x before at start taken);
}
