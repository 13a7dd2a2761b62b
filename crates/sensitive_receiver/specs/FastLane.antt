-- What the lane on the fast clock keeps and hears: lane 22, which reads the near list.
use Rattle.std.specs.Prelude.{◌≡◌, ℕ, ◌+◌, ◌<◌, ◌≤◌, ℤ, List, length}
use Rattle.std.specs.List.{All}
use Rattle.frame_merge.specs.declared.candidate.Candidate.{Candidate}
use Rattle.tone_tracking.specs.declared.bit_clock.Pull.{Pull}
use Rattle.tone_tracking.specs.declared.bit_clock.Pull.TheVariants.{Fast}
use Rattle.tone_tracking.specs.declared.place_tones.PlaceTones.{PlaceTones}
use Rattle.tone_tracking.specs.declared.reach.Reach.TheVariants.{Near}
use Rattle.tone_tracking.specs.Clock.{Clock, clock_after}
use Rattle.tone_tracking.specs.HeldRing.{HeldRing}
use Rattle.sensitive_receiver.specs.Found.{AddsWhere, AreAddedWhere, HasRoomFrom}
use Rattle.sensitive_receiver.specs.Hearing.{AreTonesOf}
use Rattle.sensitive_receiver.specs.HeldList.{HasDecided}
use Rattle.sensitive_receiver.specs.LateLanes.{HeldLane, LaneStandsFor}
use Rattle.sensitive_receiver.specs.Lanes.{lane_tones, tones}

-- the last tones of the near list, the clock on them, and the lane
pub record HeldFast : Type 0 where
  pub ring : HeldRing
  pub clock : Pull × Clock
  pub lane : HeldLane

-- the ring, the clock and the lane have taken the tones of all places before the next one
pub record FastHasRead (held : HeldFast) (x : List ℤ) : Type 0 where
  pub list : held.ring.reach ≡ Near
  pub decided : HasDecided held.ring x
  pub clock : held.clock.1 ≡ clock_after Fast (tones Near x) held.ring.place
  pub lane : LaneStandsFor held.lane (lane_tones x 22 held.ring.place)

-- at the places from one to below another the lane adds what it hears
abbrev pub FastAdds : ℕ → ℕ → List ℤ → List Candidate → List Candidate → Type 0
FastAdds from to x before after = AddsWhere (λ p l. ((from ≤ p) × (p < to)) × (l ≡ 22)) x before after

-- the bank has read a line of tones that begins at its place, and these items are what its lane hears there
pub record FastReadsLine (old new : HeldFast) (line : List PlaceTones) (items : List Candidate) : Type 0 where
  pub place : new.ring.place ≡ old.ring.place + length line
  pub read : (x : List ℤ) → AreTonesOf old.ring.place line x → FastHasRead old x → FastHasRead new x
  pub found : (x : List ℤ) → AreTonesOf old.ring.place line x → FastHasRead old x
      → AreAddedWhere (λ p l. ((old.ring.place ≤ p) × (p < new.ring.place)) × (l ≡ 22)) x items
  pub bounds : All (HasRoomFrom (old.ring.place + 6)) items
