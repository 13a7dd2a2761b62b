-- A block that ends with the last of some bits each of which has a number, its certainty: the higher, the surer.
use Rattle.std.specs.Prelude.{◌≡◌, ℕ, ◌-◌, ◌*◌, ◌<◌, Bool, List, [], ◌∷◌, ◌++◌, length, take, drop, min, slice_index, All}
use Rattle.hdlc_framer.specs.BitOrder.{sent_bits}
use Rattle.fx25_blocks.specs.NearTag.{IsNearTag}
use Rattle.fx25_blocks.specs.Tags.{IsTag, block_length}
use Rattle.fx25_blocks.specs.UnknownOctets.{ReadsFrame}

-- the least of some numbers of 32 bits
abbrev pub least_of : List ℕ → ℕ
least_of [] = 4294967295
least_of (x ∷ xs) = min x (least_of xs)

-- an octet is as sure as its least sure bit
pub record AreOctetCertainties (numbers certainty : List ℕ) : Type 0 where
  pub size : length numbers ≡ 8 * length certainty
  pub each : (place : ℕ) → place < length certainty
      → slice_index certainty place ≡ least_of (take 8 (drop (8 * place) numbers))

-- the numbers of the last bits, as many as a block of the tag has
abbrev pub block_numbers : ℕ → List ℕ → List ℕ
block_numbers tag numbers = drop (length numbers - 8 * block_length tag) numbers

-- the last bits are a tag, near enough, and a block that is read as a frame, its octets being as sure as the numbers of
-- its bits say
pub record EndsUnsureBlock (bits : List Bool) (numbers : List ℕ) (tag : ℕ) (frame : List ℕ) (over : ℕ) : Type 0 where
  pub before : List Bool
  pub heard : List Bool
  pub word : List ℕ
  pub certainty : List ℕ
  pub is_tag : IsTag tag
  pub bits_are : bits ≡ before ++ (heard ++ sent_bits word)
  pub near_tag : IsNearTag tag heard
  pub octets : All (λ octet. octet < 256) word
  pub size : length word ≡ block_length tag
  pub certainties : AreOctetCertainties (block_numbers tag numbers) certainty
  pub reads : ReadsFrame tag word certainty frame over
