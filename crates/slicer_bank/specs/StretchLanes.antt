-- What a lane stands for that hears stretches of samples, and what it hears with the last sample of one.
use Rattle.std.specs.Prelude.{◌≡◌, ℕ, ◌≤◌, ℤ, List, [], ◌∷◌, ◌++◌, length, map, Option, Some, None, is_some}
use Rattle.std.specs.List.{All}
use Rattle.hdlc_framer.specs.Held.{StandsFor as DeframerStandsFor, flags_asked}
use Rattle.offset_slicers.specs.Held.{StandsFor as SlicerStandsFor, offset_from}
use Rattle.tone_carrier.specs.declared.heard_window.HeardWindow.{HeardWindow}
use Rattle.tone_carrier.specs.Held.{HeldLane as HeldCarrierLane, LaneStandsFor as CarrierLaneStandsFor}
use Rattle.frame_merge.specs.declared.candidate.Candidate.{Candidate}
use Rattle.slicer_bank.specs.declared.detection.Detection.{Detection}
use Rattle.slicer_bank.specs.declared.stretch_lane.StretchLane.{StretchLane}
use Rattle.slicer_bank.specs.Candidates.{EndsWith}
use Rattle.slicer_bank.specs.Detection.{flags_of, listens_for_tones, stretch_windows}
use Rattle.slicer_bank.specs.Heard.{candidate_at}
use Rattle.slicer_bank.specs.Stretches.{Stretch, with_sample, stretch_bits}

-- a lane that listens for tones has taken these windows; one that does not has nothing to take them with
abbrev pub TonesStandFor : Option HeldCarrierLane → List HeardWindow → Type 0
TonesStandFor None windows = Unit {0}
TonesStandFor (Some lane) windows = CarrierLaneStandsFor lane windows

-- the lane has heard the samples of a stretch
pub record StretchStandsFor (lane : StretchLane) (stretch : Stretch) : Type 0 where
  pub slicer : SlicerStandsFor lane.slicer stretch.begin stretch.samples
  pub deframer : DeframerStandsFor lane.deframer (stretch_bits lane.offset stretch)
  pub tones : TonesStandFor lane.tones (stretch_windows lane.offset stretch)

-- a lane listens as it is asked to
pub record ListensAs (detection : Detection) (lane : StretchLane) : Type 0 where
  pub flags : flags_asked lane.deframer ≡ flags_of detection
  pub tones : is_some lane.tones ≡ listens_for_tones detection lane.offset

-- a frame ends with the last sample of a stretch, as the lane of an offset hears it
abbrev pub EndsLast : ℕ → Stretch → List ℕ → Type 0
EndsLast offset stretch octets = EndsWith (offset_from offset stretch.begin) stretch.samples octets

-- what a lane adds to what was found when it hears a sample: the frame that ends with it, or nothing
pub record HearsSample (lane : StretchLane) (sample : ℤ) (end : ℕ) (before after : List Candidate) : Type 0 where
  pub octets : List (List ℕ)
  pub one : length octets ≤ 1
  pub found : after ≡ before ++ map (candidate_at end lane.offset) octets
  pub each : (s : Stretch) → StretchStandsFor lane s → All (EndsLast lane.offset (with_sample s sample)) octets
  pub whole : (s : Stretch) (o : List ℕ) → StretchStandsFor lane s → EndsLast lane.offset (with_sample s sample) o
      → octets ≡ o ∷ []
