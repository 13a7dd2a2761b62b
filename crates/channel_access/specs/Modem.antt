-- The modem that a channel sends by: Bell 202 at 1200 bits a second, plainly or with check octets around each frame
-- (FX.25), or that of short wave at 300. At 9600 samples a second a bit has 8 samples or 32, and a tick of 10 ms has 12
-- bits or 3.
use Rattle.std.specs.Prelude.{ℕ, ◌*◌, ℤ, Bool, List, [], ◌∷◌, ◌++◌, Option, Some, None}
use Rattle.tone_table.specs.Wave.{wave}
use Rattle.nrzi_bits.specs.Line.{line}
use Rattle.hdlc_framer.specs.BitOrder.{sent_bits}
use Rattle.hdlc_framer.specs.Body.{flags}
use Rattle.hdlc_framer.specs.Frames.{frame_bits}
use Rattle.hdlc_framer.specs.Stuffing.{flag}
use Rattle.fx25_blocks.specs.Blocks.{bits_needed}
use Rattle.fx25_blocks.specs.Tags.{tag_bits}
use Rattle.fx25_sender.specs.Units.{last_tag, block_octets}
use Rattle.afsk_modulator.specs.Transmission.{transmission}
use Rattle.hf_sender.specs.Transmission.{hf_transmission}
use Rattle.channel_access.specs.declared.modem.CheckOctets.{CheckOctets}
use Rattle.channel_access.specs.declared.modem.CheckOctets.TheVariants.{Sixteen, ThirtyTwo, SixtyFour}
use Rattle.channel_access.specs.declared.modem.Modem.{Modem}
use Rattle.channel_access.specs.declared.modem.Modem.TheVariants.{Bell202, ShortWave, Fx25}

-- how many check octets they are
abbrev pub count_of : CheckOctets → ℕ
count_of Sixteen = 16
count_of ThirtyTwo = 32
count_of SixtyFour = 64

-- the bits of a tick
abbrev pub tick_bits : Modem → ℕ
tick_bits Bell202 = 12
tick_bits ShortWave = 3
tick_bits (Fx25 checks) = 12

-- the bits of so many ticks
abbrev pub bits_of_ticks : Modem → ℕ → ℕ
bits_of_ticks Bell202 ticks = 12 * ticks
bits_of_ticks ShortWave ticks = 3 * ticks
bits_of_ticks (Fx25 checks) ticks = 12 * ticks

-- the samples of so many bits, how many they are
abbrev pub samples_of_bits : Modem → ℕ → ℕ
samples_of_bits Bell202 bits = 8 * bits
samples_of_bits ShortWave bits = 32 * bits
samples_of_bits (Fx25 checks) bits = 8 * bits

-- a tag and the block of a frame, or the bits of the frame if it has no tag
abbrev pub tagged : Option ℕ → List ℕ → List Bool
tagged None octets = frame_bits octets
tagged (Some tag) octets = tag_bits tag ++ sent_bits (block_octets tag octets)

-- What stands for a frame between two flags: its bits, or with check octets the tag and the block with the fewest data
-- octets into which it fits.
unfoldable pub piece : Modem → List ℕ → List Bool
piece Bell202 octets = frame_bits octets
piece ShortWave octets = frame_bits octets
piece (Fx25 checks) octets = tagged (last_tag (count_of checks) (bits_needed octets) 11) octets

-- frames with exactly one flag between neighbours
abbrev pub joined_by : Modem → List (List ℕ) → List Bool
joined_by modem [] = []
joined_by modem (octets ∷ []) = piece modem octets
joined_by modem (octets ∷ next ∷ frames) = piece modem octets ++ (flag ++ joined_by modem (next ∷ frames))

-- opening flags, the frames, and closing flags
unfoldable pub body_by : Modem → List (List ℕ) → ℕ → ℕ → List Bool
body_by modem frames opening closing = flags opening ++ (joined_by modem frames ++ flags closing)

-- the samples of flags and frames at full level: frames, opening flags and closing flags
unfoldable pub transmission_by : Modem → List (List ℕ) → ℕ → ℕ → List ℤ
transmission_by Bell202 frames opening closing = transmission frames opening closing
transmission_by ShortWave frames opening closing = hf_transmission 10000 frames opening closing
transmission_by (Fx25 checks) frames opening closing = wave (line (body_by (Fx25 checks) frames opening closing))
