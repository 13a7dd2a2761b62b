-- A sound as a WAV file (Multimedia Programming Interface and Data Specifications 1.0): the head, and the samples in
-- two's complement, the low octet first.
use Rattle.std.specs.Prelude.{ℕ, ℤ, List, ◌++◌, length}
use Rattle.std.specs.Int.{cast_unsigned, w16}
use Rattle.std.specs.List.{flat_map}
use Rattle.byteorder.specs.Endian.{little_bytes}
use Rattle.wav_file.specs.Head.{head_of}

-- the two octets of a sample
abbrev pub sample_octets : ℤ → List ℕ
sample_octets sample = little_bytes 2 (cast_unsigned w16 sample)

abbrev pub octets_of : List ℤ → List ℕ
octets_of samples = flat_map sample_octets samples

-- the file of some samples
abbrev pub wave_of : List ℤ → List ℕ
wave_of samples = head_of (length samples) ++ octets_of samples
