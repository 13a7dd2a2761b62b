-- The head of a WAV file of this project's format, up to its samples (Multimedia Programming Interface and Data
-- Specifications 1.0).
use Rattle.std.specs.Prelude.{ℕ, ◌+◌, ◌*◌, List, ◌++◌, codes}
use Rattle.byteorder.specs.Endian.{little_bytes}

-- the format: PCM, one channel, 9600 samples and 19200 octets a second, two octets a sample, 16 bits
abbrev pub format_octets : List ℕ
format_octets =
    little_bytes 2 1 ++ (little_bytes 2 1 ++ (little_bytes 4 9600
    ++ (little_bytes 4 19200 ++ (little_bytes 2 2 ++ little_bytes 2 16))))

-- the head before so many octets of data; RIFF's size counts the 36 octets of the head that follow it, too
unfoldable pub head_before : ℕ → List ℕ
head_before size =
    codes "RIFF" ++ (little_bytes 4 (36 + size) ++ (codes "WAVE"
    ++ (codes "fmt " ++ (little_bytes 4 16 ++ (format_octets ++ (codes "data" ++ little_bytes 4 size))))))

-- the head of a file of so many samples
abbrev pub head_of : ℕ → List ℕ
head_of count = head_before (2 * count)
