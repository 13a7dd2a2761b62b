-- What a slicer and a bank of lanes keep, and what that stands for.
use Rattle.std.specs.Prelude.{◌≡◌, ℕ, ◌<◌, ℤ, pos, List, ◌++◌, length, drop, replicate, slice_index_or}
use Rattle.tone_table.specs.declared.tone.Tone.{Tone}
use Rattle.nrzi_bits.specs.Line.{last_tone}
use Rattle.hdlc_framer.specs.Held.{flags_asked}
use Rattle.slicer_bank.specs.ToneLanes.{HeldToneLane, ToneLaneStandsFor}
use Rattle.hf_modem.specs.Windows.{tones_at}

-- what stands before the first sample
abbrev pub silence : List ℤ
silence = replicate 32 (pos 0)

-- the last 32 of the samples, with silence before the first
abbrev pub last_window : List ℤ → List ℤ
last_window x = drop (length x) (silence ++ x)

-- the offset, the number of samples, the last 32 of them, and the tone of the last whole window
pub record HeldSlicer : Type 0 where
  pub offset : ℕ
  pub position : ℕ
  pub recent : List ℤ
  pub before : Tone

-- the slicer has taken these samples
pub record SlicerStandsFor (held : HeldSlicer) (x : List ℤ) : Type 0 where
  pub count : held.position ≡ length x
  pub recent : held.recent ≡ last_window x
  pub before : held.before ≡ last_tone (tones_at held.offset x)

-- each lane has taken the windows at its offset that lie in these samples
abbrev pub LanesStandFor : List HeldToneLane → List ℤ → Type 0
LanesStandFor lanes x =
    (offset : ℕ) (d : HeldToneLane) → offset < 32
    → ToneLaneStandsFor (slice_index_or lanes offset d) (tones_at offset x)

-- a lane listens for so many flags in a row
abbrev pub AsksFor : ℕ → HeldToneLane → Type 0
AsksFor flags lane = flags_asked lane.deframer ≡ flags

pub record HeldBank : Type 0 where
  pub lanes : List HeldToneLane
  pub recent : List ℤ
  pub position : ℕ
  pub flags : ℕ

-- the bank has taken these samples
pub record BankStandsFor (held : HeldBank) (x : List ℤ) : Type 0 where
  pub count : held.position ≡ length x
  pub recent : held.recent ≡ last_window x
  pub lanes : LanesStandFor held.lanes x
