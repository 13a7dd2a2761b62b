-- What the banks keep of samples, and what that stands for.
use Rattle.std.specs.Prelude.{◌≡◌, ℕ, ◌+◌, ◌<◌, ℤ, Bool, List, length, slice_index_or}
use Rattle.hdlc_framer.specs.Frames.{EndsFrame}
use Rattle.hdlc_framer.specs.Held.{HoldsFrame}
pub use Rattle.slicer_bank.specs.ToneLanes.{HeldToneLane as HeldLane, ToneLaneStandsFor as LaneStandsFor}
use Rattle.tone_tracking.specs.declared.bit_clock.Pull.{Pull}
use Rattle.tone_tracking.specs.declared.bit_clock.Pull.TheVariants.{Slow, Fast}
use Rattle.tone_tracking.specs.Clock.{Clock, clock_after}
use Rattle.hf_tracking.specs.Heard.{heard, places_in}
use Rattle.hf_tracking.specs.Held.{HeldTones, HasTaken as TonesHaveTaken}
use Rattle.hf_sensitive.specs.Lanes.{first_lane, lane_tones}

-- a frame ends with the bits, and the lane holds whatever frame that is
pub record HoldsFrameOf (held : HeldLane) (bits : List Bool) : Type 0 where
  pub octets : List ℕ
  pub ends : EndsFrame bits octets
  pub holds : (frame : List ℕ) → EndsFrame bits frame → HoldsFrame held.deframer frame

-- a bank's tones, the clocks on them, and its three lanes
pub record HeldBank : Type 0 where
  pub tones : HeldTones
  pub slow_clock : Pull × Clock
  pub fast_clock : Pull × Clock
  pub fixed : HeldLane
  pub slow : HeldLane
  pub fast : HeldLane

-- the place is the last one that is decided of the samples that the tones have taken
pub record IsLastPlace (tones : HeldTones) (place : ℕ) (x : List ℤ) : Type 0 where
  pub taken : TonesHaveTaken tones x
  pub last : places_in tones.count ≡ place + 1

-- clocks and lanes have taken the tones of so many places
pub record HaveRead (held : HeldBank) (count : ℕ) (x : List ℤ) : Type 0 where
  pub slow_clock : held.slow_clock.1 ≡ clock_after Slow (heard held.tones.bank x) count
  pub fast_clock : held.fast_clock.1 ≡ clock_after Fast (heard held.tones.bank x) count
  pub fixed : LaneStandsFor held.fixed (lane_tones x (first_lane held.tones.bank) count)
  pub slow : LaneStandsFor held.slow (lane_tones x (first_lane held.tones.bank + 1) count)
  pub fast : LaneStandsFor held.fast (lane_tones x (first_lane held.tones.bank + 2) count)

-- the bank has taken so many of these samples as it has counted
pub record HasTaken (held : HeldBank) (x : List ℤ) : Type 0 where
  pub tones : TonesHaveTaken held.tones x
  pub read : HaveRead held (places_in held.tones.count) x

-- the bank has taken these samples
pub record StandsFor (held : HeldBank) (x : List ℤ) : Type 0 where
  pub position : held.tones.count ≡ length x
  pub taken : HasTaken held x

-- there are nine banks, each with its number, and each has counted so many samples
pub record AreAt (position : ℕ) (banks : List HeldBank) : Type 0 where
  pub count : length banks ≡ 9
  pub each : (k : ℕ) (d : HeldBank) → k < 9
      → ((slice_index_or banks k d).tones.bank ≡ k) × ((slice_index_or banks k d).tones.count ≡ position)

-- each of them has taken these samples
abbrev pub AllStandFor : List HeldBank → List ℤ → Type 0
AllStandFor banks x = (k : ℕ) (d : HeldBank) → k < 9 → StandsFor (slice_index_or banks k d) x
