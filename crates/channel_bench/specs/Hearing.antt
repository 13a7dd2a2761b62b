-- What a station hears of the samples that reached it: plainly, or with blocks of FX.25.
use Rattle.std.specs.Prelude.{◌≡◌, ◌⊎◌, ◌+◌, ◌-◌, Bool, true, false, ℤ, List, ◌++◌, length, map, take}
use Rattle.frame_merge.specs.declared.candidate.Candidate.{Candidate}
use Rattle.fx25_receiver.specs.Coming.{HearsBlock}
use Rattle.fx25_receiver.specs.Merged.{AreMerged}
use Rattle.fx25_receiver.specs.WithoutBlocks.{candidate_of}
use Rattle.fx25_receiver.specs.declared.heard.Heard.{Heard}
use Rattle.slicer_bank.specs.Busy.{HearsCarrier}
use Rattle.slicer_bank.specs.MergedItems.{AreMergedBetween}
use Rattle.channel_bench.specs.Sounding.{mark_of, tick_samples}

-- ---- the channel

-- Another station is heard at the end of these samples: by one flag, or where blocks are read by a block that comes in.
abbrev pub HearsStation : (blocks : Bool) → List ℤ → Type 0
HearsStation false samples = HearsCarrier 1 samples
HearsStation true samples = HearsCarrier 1 samples ⊎ HearsBlock samples

-- ---- frames

-- The frames that are heard with the samples of a tick: those of the merged candidates of all samples so far that end
-- below the marks, and did not before.
abbrev pub ArePlainlyReady : List ℤ → List Candidate → Type 0
ArePlainlyReady samples items =
    AreMergedBetween (length samples - (tick_samples + 7)) (mark_of samples) samples items

-- Where blocks are read, a frame is heard as soon as it or its block has ended: with the samples of a tick come those
-- that are heard of all samples so far, and were not of the samples before that tick.
pub record AreReadyInBlocks (samples : List ℤ) (items : List Candidate) : Type 0 where
  pub before : List Heard
  pub own : List Heard
  pub were : AreMerged (take (length samples - tick_samples) samples) before
  pub are : AreMerged samples (before ++ own)
  pub is : items ≡ map candidate_of own

abbrev pub AreReady : (blocks : Bool) → List ℤ → List Candidate → Type 0
AreReady false samples items = ArePlainlyReady samples items
AreReady true samples items = AreReadyInBlocks samples items
