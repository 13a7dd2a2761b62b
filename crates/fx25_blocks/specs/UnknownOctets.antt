-- How a block is read whose octets are not all as sure: as it came, or else with more and more of the least sure octets
-- taken as unknown.
use Rattle.std.specs.Prelude.{◌≡◌, ℕ, ◌+◌, ◌*◌, ◌/◌, ◌<◌, ◌≤◌, Bool, List, length, take, All}
use Rattle.hdlc_framer.specs.BitOrder.{sent_bits}
use Rattle.reed_solomon.specs.Erasures.{count_true, distance_outside}
use Rattle.fx25_blocks.specs.BlockEnds.{OpensWithFrame}
use Rattle.fx25_blocks.specs.Blocks.{IsBlockCodeword}
use Rattle.fx25_blocks.specs.LeastSure.{AreLeastSure}
use Rattle.fx25_blocks.specs.Tags.{check_count, data_count}

-- a codeword of a tag that differs from what was heard, outside the unknown octets, in at most half as many octets as
-- there are check octets beyond one for each unknown octet
pub record IsRepairOutside (tag : ℕ) (unknown : List Bool) (word codeword : List ℕ) : Type 0 where
  pub size : length codeword ≡ length word
  pub octets : All (λ octet. octet < 256) codeword
  pub is_codeword : IsBlockCodeword tag codeword
  pub near : count_true unknown + 2 * distance_outside unknown word codeword ≤ check_count tag

-- With its least sure octets taken as unknown, so many, a word is near enough to a codeword whose data octets open with
-- a frame. The flag after the frame is over after so many bits.
pub record CarriesWithUnknown (tag count : ℕ) (word certainty frame : List ℕ) (over : ℕ) : Type 0 where
  pub unknown : List Bool
  pub codeword : List ℕ
  pub least_sure : AreLeastSure count certainty unknown
  pub repair : IsRepairOutside tag unknown word codeword
  pub opens : OpensWithFrame (sent_bits (take (data_count tag) codeword)) frame over

-- The first frame that a block carries if none of its octets is unknown, or as many as an eighth of its check octets, or
-- two, three or four eighths.
pub record ReadsFrame (tag : ℕ) (word certainty frame : List ℕ) (over : ℕ) : Type 0 where
  pub eighths : ℕ
  pub most : eighths ≤ 4
  pub carries : CarriesWithUnknown tag (eighths * (check_count tag / 8)) word certainty frame over
  pub is_first : (fewer : ℕ) → fewer < eighths → (other : List ℕ) → (other_over : ℕ)
      → ¬ CarriesWithUnknown tag (fewer * (check_count tag / 8)) word certainty other other_over
