-- The block of a frame (FX.25): data octets that hold the frame's bits between flags, and their check octets.
use Rattle.std.specs.Prelude.{◌≡◌, ℕ, ◌+◌, ◌*◌, ◌<◌, ◌≤◌, Bool, List, ◌++◌, length, take, All}
use Rattle.hdlc_framer.specs.BitOrder.{sent_bits}
use Rattle.hdlc_framer.specs.Body.{flags}
use Rattle.hdlc_framer.specs.Frames.{frame_bits}
use Rattle.hdlc_framer.specs.Stuffing.{flag}
use Rattle.reed_solomon.specs.Codeword.{IsCodewordOf}
use Rattle.reed_solomon.specs.declared.code.Zeros.TheVariants.{Between}
use Rattle.fx25_blocks.specs.Tags.{block_length, check_count, data_count}

-- how many bits a frame and a flag on each side of it are
abbrev pub bits_needed : List ℕ → ℕ
bits_needed frame = length (frame_bits frame) + 16

-- so many bits fit into the data octets of a tag
abbrev pub Fits : ℕ → ℕ → Type 0
Fits tag needed = needed ≤ 8 * data_count tag

-- a flag, the frame with its check sequence and its inserted zeros, and so many flags
unfoldable pub padded : List ℕ → ℕ → List Bool
padded frame count = flag ++ (frame_bits frame ++ flags count)

-- the bits of the data octets: as many as there are of such a line, whose last flag may be cut
unfoldable pub data_bits : ℕ → List ℕ → List Bool
data_bits tag frame = take (8 * data_count tag) (padded frame (data_count tag))

-- The code of a tag: its first root is power(1), and a shortened word has its zeros between data and check octets.
abbrev pub IsBlockCodeword : ℕ → List ℕ → Type 0
IsBlockCodeword tag word = IsCodewordOf 1 (check_count tag) Between word

-- the octets that follow a tag, if it carries this frame
pub record IsBlockOf (tag : ℕ) (frame block : List ℕ) : Type 0 where
  pub fits : Fits tag (bits_needed frame)
  pub size : length block ≡ block_length tag
  pub octets : All (λ octet. octet < 256) block
  pub carried : sent_bits (take (data_count tag) block) ≡ data_bits tag frame
  pub codeword : IsBlockCodeword tag block
