-- What a slicer keeps of the samples that it stands for: those of a stretch, which begins at a place in the audio.
use Rattle.std.specs.Prelude.{◌≡◌, ℕ, ◌+◌, ◌-◌, ◌*◌, ◌%◌, ℤ, List, length, take, drop}
use Rattle.tone_table.specs.declared.tone.Tone.{Tone}
use Rattle.nrzi_bits.specs.Line.{last_tone}
use Rattle.offset_slicers.specs.Windows.{windows_in, tones_at}

-- the offset, where the first window of the stretch begins, the position, the samples of the window under way, and the
-- tone of the window before it
pub record Held : Type 0 where
  pub offset : ℕ
  pub first : ℕ
  pub position : ℕ
  pub part : List ℤ
  pub before : Tone

-- of the window's eight places those below the count of samples in it are kept, and the others hold older samples
abbrev pub held_of : ℕ → ℕ → ℕ → List ℤ → Tone → Held
held_of offset first position window before =
    record {
      offset = offset;
      first = first;
      position = position;
      part = take ((position - first) % 8) window;
      before = before;
    }

-- How many samples of a stretch come before its first window of an offset: the windows of an offset begin at all places
-- that are the offset modulo 8.
abbrev pub offset_from : ℕ → ℕ → ℕ
offset_from offset begin = (8 + offset - begin % 8) % 8

-- the samples after the last whole window
abbrev pub part_after : ℕ → List ℤ → List ℤ
part_after offset x = drop (offset + 8 * windows_in offset (length x)) x

-- What is kept is that of the samples of a stretch: where they end, those after the last whole window, and the last
-- window's tone.
pub record StandsFor (held : Held) (begin : ℕ) (x : List ℤ) : Type 0 where
  pub count : held.position ≡ begin + length x
  pub first : held.first ≡ begin + offset_from held.offset begin
  pub part : held.part ≡ part_after (offset_from held.offset begin) x
  pub before : held.before ≡ last_tone (tones_at (offset_from held.offset begin) x)
