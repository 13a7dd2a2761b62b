-- What a bank of the lanes on the slow clock of one list of tones keeps, and what that stands for.
use Rattle.std.specs.Prelude.{◌≡◌, ℕ, ◌+◌, ◌<◌, nat_lt, if◌then◌else◌, true, ℤ, List, slice_index_or}
use Rattle.tone_tracking.specs.declared.bit_clock.Pull.{Pull}
use Rattle.tone_tracking.specs.declared.bit_clock.Pull.TheVariants.{Slow}
use Rattle.tone_tracking.specs.declared.reach.Reach.{Reach}
use Rattle.tone_tracking.specs.Clock.{Clock, clock_after}
use Rattle.tone_tracking.specs.Correlation.{correlations}
use Rattle.tone_tracking.specs.HeldRing.{HeldRing, StandsFor as RingStandsFor}
use Rattle.tone_tracking.specs.WithoutMean.{without_mean}
use Rattle.sensitive_receiver.specs.declared.decided_place.DecidedPlace.{DecidedPlace}
use Rattle.sensitive_receiver.specs.LateLanes.{HeldLane, LaneStandsFor}
use Rattle.sensitive_receiver.specs.Lanes.{is_read_at, lane_tones, tones}
use Rattle.sensitive_receiver.specs.ListLanes.{IsSlowOn, lane_of}

-- the last tones of the list, the clock on them, and its lanes
pub record HeldList : Type 0 where
  pub ring : HeldRing
  pub clock : Pull × Clock
  pub lanes : List HeldLane

-- the ring has taken the tones of all places before its own, as samples without their mean give them
abbrev pub HasDecided : HeldRing → List ℤ → Type 0
HasDecided ring x = RingStandsFor ring (correlations (without_mean x))

-- each lane has read the tones of so many places of the samples
abbrev pub LanesHaveRead : Reach → List HeldLane → ℕ → List ℤ → Type 0
LanesHaveRead reach lanes count x =
    (k : ℕ) (d : HeldLane) → k < 3
    → LaneStandsFor (slice_index_or lanes k d) (lane_tones x (lane_of reach k) count)

-- the ring, the clock and the lanes have taken the tones of all places before the next one
pub record HasRead (held : HeldList) (x : List ℤ) : Type 0 where
  pub decided : HasDecided held.ring x
  pub clock : held.clock.1 ≡ clock_after Slow (tones held.ring.reach x) held.ring.place
  pub lanes : LanesHaveRead held.ring.reach held.lanes held.ring.place x

-- ---- while the lanes read a place, one after another

-- how many places a lane has taken, if the first lanes have taken a place and the others have not
abbrev pub places_read : ℕ → ℕ → ℕ → ℕ
places_read first place k = if nat_lt k first then place + 1 else place

-- The first lanes have taken a place, and the others have not: each has read its tones of the places that it has taken.
abbrev pub LanesAreAt : Reach → ℕ → List HeldLane → ℕ → List ℤ → Type 0
LanesAreAt reach first lanes place x =
    (k : ℕ) (d : HeldLane) → k < 3
    → LaneStandsFor (slice_index_or lanes k d) (lane_tones x (lane_of reach k) (places_read first place k))

-- the ring took the place last, and the clock tells of it what it says of these samples
pub record IsLastPlace (ring : HeldRing) (at : DecidedPlace) (x : List ℤ) : Type 0 where
  pub decided : HasDecided ring x
  pub last : ring.place ≡ at.place + 1
  pub told : (lane : ℕ) → IsSlowOn ring.reach lane → at.reads ≡ is_read_at x lane at.place

-- ---- one lane

-- the ring took a place last at which a lane reads a bit
pub record LastIsRead (ring : HeldRing) (lane place : ℕ) (x : List ℤ) : Type 0 where
  pub decided : HasDecided ring x
  pub last : ring.place ≡ place + 1
  pub reads : is_read_at x lane place ≡ true
