-- Bits of samples at 9600 samples a second and 1200 bits a second (Bell 202): a bit is a window of eight samples, and
-- an offset below eight says where the first window begins. Tones give bits by the rule of inverted NRZ.
use Rattle.std.specs.Prelude.{◌≡◌, ℕ, ◌+◌, ◌-◌, ◌*◌, ◌/◌, ℤ, List, Bool, length, map, take, drop}
use Rattle.std.specs.List.{range_with_len}
use Rattle.tone_table.specs.declared.tone.Tone.{Tone}
use Rattle.nrzi_bits.specs.Line.{bits_of}
use Rattle.offset_slicers.specs.Decision.{tone_of}

-- how many windows of an offset lie in so many samples
abbrev pub windows_in : ℕ → ℕ → ℕ
windows_in offset count = (count - offset) / 8

-- window k: the samples offset + 8k to offset + 8k + 7
unfoldable pub window_at : ℕ → List ℤ → ℕ → List ℤ
window_at offset x k = take 8 (drop (offset + 8 * k) x)

-- the window that follows all those of some samples, in more of them
abbrev pub next_window : ℕ → List ℤ → List ℤ → List ℤ
next_window offset x more = window_at offset more (windows_in offset (length x))

-- the tones of the windows of an offset that lie in the samples
unfoldable pub tones_at : ℕ → List ℤ → List Tone
tones_at offset x = map (λ k. tone_of (window_at offset x k)) (range_with_len 0 (windows_in offset (length x)))

-- the bits at an offset: one for each of its windows, 1 exactly when its tone and that of the window before agree
unfoldable pub bits : ℕ → List ℤ → List Bool
bits offset x = bits_of (tones_at offset x)

-- the last of the samples is the last of a window of the offset
abbrev pub EndsWindow : ℕ → List ℤ → Type 0
EndsWindow offset x = (k : ℕ) × (length x ≡ offset + 8 * (k + 1))
