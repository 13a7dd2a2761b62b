-- What the bank of eight lanes keeps, and what that stands for.
use Rattle.std.specs.Prelude.{◌≡◌, ℕ, ◌<◌, ℤ, pos, List, ◌++◌, length, drop, replicate, Bool, false, Option}
use Rattle.std.specs.Prelude.{slice_index_or}
use Rattle.std.specs.List.{All}
use Rattle.tone_table.specs.declared.tone.Tone.{Tone}
use Rattle.offset_slicers.specs.Windows.{tones_at}
use Rattle.hdlc_framer.specs.Held.{Held as HeldDeframer, flags_asked}
use Rattle.frame_merge.specs.declared.candidate.Candidate.{Candidate}
use Rattle.slicer_bank.specs.ToneLanes.{HeldToneLane, ToneLaneStandsFor}

-- the tone of the last window, the deframer of the bits, and what the lane heard in a job of its own; nothing if the
-- job wanted memory
pub record HeldLane : Type 0 where
  pub before : Tone
  pub deframer : HeldDeframer
  pub heard : Option (List Candidate)

-- what it keeps of the tones of its windows
abbrev pub tones_kept : HeldLane → HeldToneLane
tones_kept held = record { before = held.before; deframer = held.deframer }

-- the lane has taken windows of these tones
abbrev pub LaneStandsFor : HeldLane → List Tone → Type 0
LaneStandsFor held tones = ToneLaneStandsFor (tones_kept held) tones

-- the lane listens for so many flags in a row
abbrev pub AsksFor : ℕ → HeldLane → Type 0
AsksFor flags held = flags_asked held.deframer ≡ flags

-- each lane has taken the windows at its offset that lie in these samples
abbrev pub LanesStandFor : List HeldLane → List ℤ → Type 0
LanesStandFor lanes x =
    (offset : ℕ) (d : HeldLane) → offset < 8 → LaneStandsFor (slice_index_or lanes offset d) (tones_at offset x)

-- what stands before the first sample
abbrev pub silence : List ℤ
silence = replicate 7 (pos 0)

-- the last seven of the samples, with silence before the first
abbrev pub last_seven : List ℤ → List ℤ
last_seven x = drop (length x) (silence ++ x)

pub record HeldBank : Type 0 where
  pub lanes : List HeldLane
  pub recent : List ℤ
  pub position : ℕ
  pub flags : ℕ
  pub spent : Bool

-- the bank has taken these samples, its lanes listen for as many flags as it does, and every growth that it wanted was
-- given
pub record StandsFor (held : HeldBank) (x : List ℤ) : Type 0 where
  pub spent : held.spent ≡ false
  pub count : held.position ≡ length x
  pub recent : held.recent ≡ last_seven x
  pub lanes : LanesStandFor held.lanes x
  pub asks : All (AsksFor held.flags) held.lanes
