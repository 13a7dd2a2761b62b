-- By what another station is heard in a stretch of samples: by flags in a row among the bits of an offset, or by the
-- tones of its windows.
use Rattle.std.specs.Prelude.{◌≡◌, ℕ, ◌%◌, ◌==◌, ◌≤◌, Bool, false, List}
use Rattle.hdlc_framer.specs.Carrier.{HoldsCarrier}
use Rattle.offset_slicers.specs.Held.{offset_from}
use Rattle.tone_carrier.specs.declared.heard_window.HeardWindow.{HeardWindow}
use Rattle.tone_carrier.specs.Tones.{ShowsCarrier, heard_windows}
use Rattle.slicer_bank.specs.declared.detection.Detection.{Detection}
use Rattle.slicer_bank.specs.declared.detection.Detection.TheVariants.{Flags, Tones}
use Rattle.slicer_bank.specs.Stretches.{Stretch, stretch_bits}

-- 1 to 8 flags in a row can be asked for
abbrev pub CanBeAsked : Detection → Type 0
CanBeAsked (Flags count) = (1 ≤ count) × (count ≤ 8)
CanBeAsked Tones = Unit {0}

-- what is heard in the windows of a stretch: from the first window of the offset that begins in it
abbrev pub stretch_windows : ℕ → Stretch → List HeardWindow
stretch_windows offset stretch = heard_windows (offset_from offset stretch.begin) stretch.samples

-- The lane of an offset hears a station in a stretch: its bits hold a carrier by so many flags in a row, or the offset
-- is even and its windows show a carrier by their tones.
abbrev pub HearsStation : Detection → ℕ → Stretch → Type 0
HearsStation (Flags count) offset stretch = HoldsCarrier count (stretch_bits offset stretch)
HearsStation Tones offset stretch = (offset % 2 ≡ 0) × ShowsCarrier (stretch_windows offset stretch)

-- for how many flags the deframer of a lane listens, and whether the lane of an offset listens for tones
abbrev pub flags_of : Detection → ℕ
flags_of (Flags count) = count
flags_of Tones = 1

abbrev pub listens_for_tones : Detection → ℕ → Bool
listens_for_tones (Flags count) offset = false
listens_for_tones Tones offset = offset % 2 == 0
