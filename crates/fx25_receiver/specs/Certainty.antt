-- How sure the bits of a lane are.
use Rattle.std.specs.Prelude.{ℕ, ◌+◌, ◌-◌, ◌/◌, ℤ, List, length, map, max, min}
use Rattle.std.specs.List.{range_with_len}
use Rattle.tone_table.specs.declared.tone.Tone.TheVariants.{Mark, Space}
use Rattle.offset_slicers.specs.Decision.{energy}
use Rattle.offset_slicers.specs.Windows.{window_at, windows_in}

-- By how much the energy of the louder tone is more than that of the other, in 65536ths of it. It is 0 if both are as
-- loud, and at most 65535.
unfoldable pub certainty : List ℤ → ℕ
certainty window =
    let louder = max (energy Mark window) (energy Space window) in
    let quieter = min (energy Mark window) (energy Space window) in
    (louder - quieter) / (louder / 65536 + 1)

-- the numbers of the bits of an offset: a bit is as sure as the tone of its window
unfoldable pub certainties : ℕ → List ℤ → List ℕ
certainties offset x = map (λ k. certainty (window_at offset x k)) (range_with_len 0 (windows_in offset (length x)))
