-- What a receiver of 26 lanes with blocks keeps, and what that stands for. Public clauses cite `StandsFor` alone.
use Rattle.std.specs.Prelude.{◌≡◌, ℕ, ◌+◌, ◌-◌, ◌<◌, ◌≤◌, ◌&&◌, nat_le, nat_lt, if◌then◌else◌, Bool, true, false, ℤ, pos}
use Rattle.std.specs.Prelude.{List, ◌++◌, length, take, drop, replicate, slice_index_or}
use Rattle.tone_tracking.specs.declared.bit_clock.Pull.{Pull}
use Rattle.tone_tracking.specs.declared.bit_clock.Pull.TheVariants.{Slow, Fast}
use Rattle.tone_tracking.specs.declared.reach.Reach.TheVariants.{Alone, Near, Far}
use Rattle.tone_tracking.specs.Clock.{Clock, clock_after, is_reading}
use Rattle.tone_tracking.specs.WithoutMean.{without_mean}
use Rattle.tone_tracking.specs.HeldMean.{HeldMean, StandsFor as MeanStandsFor}
use Rattle.tone_tracking.specs.HeldLists.{HeldLists, HasTaken as ListsHaveTaken}
use Rattle.fx25_receiver.specs.declared.heard.Heard.{Heard}
use Rattle.sensitive_receiver.specs.Lanes.{added_places, tones}
use Rattle.sensitive_blocks.specs.declared.readings.Readings.{Readings}
use Rattle.sensitive_blocks.specs.Bits.{ends, lane_certainties, lane_tones, window_to}
use Rattle.sensitive_blocks.specs.HeldLane.{HeldLane, LaneHasRead}
use Rattle.sensitive_blocks.specs.Taken.{HasTakenBelow}

-- ---- what is known of places

abbrev pub none_known : Readings
none_known = record { decided = false; slow_near = false; slow_far = false; fast_near = false; slow_alone = false }

-- of a place that is decided
unfoldable pub known_of : List ℤ → ℕ → Readings
known_of x place = record {
  decided = true;
  slow_near = is_reading Slow (tones Near x) place;
  slow_far = is_reading Slow (tones Far x) place;
  fast_near = is_reading Fast (tones Near x) place;
  slow_alone = is_reading Slow (tones Alone x) place;
}

-- of the place that lies eight below a sum of an end and a delay, if there is one and it is decided
unfoldable pub known_at : List ℤ → ℕ → Readings
known_at x sum =
    if nat_le 8 sum && nat_lt (sum - 8) (added_places (length x)) then known_of x (sum - 8) else none_known

-- what is known of the places at which the lanes with a delay of 0, 1 and 2 read bits with an end
abbrev pub AreKept : List Readings → ℕ → List ℤ → Type 0
AreKept kept end x = (delay : ℕ) (d : Readings) → delay < 3 → slice_index_or kept delay d ≡ known_at x (end + delay)

-- and bits with the end before it
abbrev pub AreKeptBefore : List Readings → ℕ → List ℤ → Type 0
AreKeptBefore kept next x = (delay : ℕ) (d : Readings) → delay < 3 → slice_index_or kept delay d ≡ known_at x (next + delay - 1)

-- ---- the follower of tones and clocks

pub record HeldFollower : Type 0 where
  pub position : ℕ
  pub remover : HeldMean
  pub lists : HeldLists
  pub slow_near : Pull × Clock
  pub slow_far : Pull × Clock
  pub fast_near : Pull × Clock
  pub slow_alone : Pull × Clock

-- the clocks have taken the tones of so many places of the samples
pub record ClocksHaveTaken (first second third fourth : Clock) (count : ℕ) (x : List ℤ) : Type 0 where
  pub slow_near : first ≡ clock_after Slow (tones Near x) count
  pub slow_far : second ≡ clock_after Slow (tones Far x) count
  pub fast_near : third ≡ clock_after Fast (tones Near x) count
  pub slow_alone : fourth ≡ clock_after Slow (tones Alone x) count

-- it has taken so many of these samples as it has counted, and decided all places of them
pub record FollowerHasTaken (held : HeldFollower) (x : List ℤ) : Type 0 where
  pub within : held.position ≤ length x
  pub remover : MeanStandsFor held.remover (take held.position x)
  pub lists : ListsHaveTaken held.lists (without_mean x)
  pub count : held.lists.count ≡ held.position - 15
  pub clocks : ClocksHaveTaken held.slow_near.1 held.slow_far.1 held.fast_near.1 held.slow_alone.1
      (added_places held.position) x

-- ---- lanes

-- how many ends a lane has taken, if the first lanes have taken an end and the others have not
abbrev pub ends_taken : ℕ → ℕ → ℕ → ℕ
ends_taken first end k = if nat_lt k first then end + 1 else end

-- the first lanes have read the bits with an end, and the others have not
abbrev pub LanesAreAt : ℕ → List HeldLane → ℕ → List ℤ → Type 0
LanesAreAt first lanes end x =
    (k : ℕ) (d : HeldLane) → k < 26
    → LaneHasRead (slice_index_or lanes k d) (lane_tones x k (ends_taken first end k))
    (lane_certainties x k (ends_taken first end k)) (ends x k (ends_taken first end k))

-- each lane has read its bits whose ends are below a number
abbrev pub LanesHaveRead : List HeldLane → ℕ → List ℤ → Type 0
LanesHaveRead lanes next x =
    (k : ℕ) (d : HeldLane) → k < 26
    → LaneHasRead (slice_index_or lanes k d) (lane_tones x k next) (lane_certainties x k next) (ends x k next)

-- ---- the receiver

pub record HeldReceiver : Type 0 where
  pub recent : List ℤ
  pub follower : HeldFollower
  pub readings : List Readings
  pub lanes : List HeldLane
  pub next : ℕ
  pub kept : List Heard
  pub spent : Bool

-- the follower has taken so many of these samples as it has counted, the lanes all bits with an end below the next, and what remains of
-- what ends with them was given
pub record HasTaken (held : HeldReceiver) (x : List ℤ) (given : List Heard) : Type 0 where
  pub follower : FollowerHasTaken held.follower x
  pub readings : AreKeptBefore held.readings held.next x
  pub lanes : LanesHaveRead held.lanes held.next x
  pub has_heard : HasTakenBelow held.next 0 held.kept x given

-- the last forty of the samples, with silence before the first
unfoldable pub last_forty : List ℤ → List ℤ
last_forty x = drop (length x) (replicate 40 (pos 0) ++ x)

-- A block has the samples from a position to the end, and the line has the windows of the bits that they settle: that of an end stands in
-- it where the sample 32 past the end stands in the block.
pub record IsLineOf (line block : List ℤ) (position : ℕ) (x : List ℤ) : Type 0 where
  pub size : position + length block ≡ length x
  pub samples : (i : ℕ) → i < length block → slice_index_or block i (pos 0) ≡ slice_index_or x (position + i) (pos 0)
  pub windows : (i : ℕ) → i < length block → 32 ≤ position + i → take 8 (drop i line) ≡ window_to x (position + i - 32)

-- the receiver has taken these samples and given these items, and every growth that it wanted was given
pub record StandsFor (held : HeldReceiver) (x : List ℤ) (given : List Heard) : Type 0 where
  pub spent : held.spent ≡ false
  pub position : held.follower.position ≡ length x
  pub next : held.next ≡ length x - 32
  pub recent : held.recent ≡ last_forty x
  pub taken : HasTaken held x given
