-- Samples as raw PCM: signed 16-bit samples, low octet first, one channel.
use Rattle.std.specs.Prelude.{ℕ, ℤ, List}
use Rattle.std.specs.Int.{cast_unsigned, to_le_bytes, w16}
use Rattle.std.specs.List.{flat_map}

-- the two octets of a sample
abbrev pub sample_octets : ℤ → List ℕ
sample_octets sample = to_le_bytes w16 (cast_unsigned w16 sample)

unfoldable pub pcm : List ℤ → List ℕ
pcm samples = flat_map sample_octets samples
