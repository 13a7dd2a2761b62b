-- What of the octets of an input can be written before its end is known: the frames that end before a position.
use Rattle.std.specs.Prelude.{◌≡◌, ℕ, List}
use Rattle.frame_merge.specs.declared.candidate.Candidate.{Candidate}
use Rattle.frame_merge.specs.Merged.{candidate_frames}
use Rattle.tnc_words.specs.declared.command.DecodeWords.{DecodeWords}
use Rattle.tnc_decode.specs.Audio.{samples_read}
use Rattle.tnc_decode.specs.Modem.{modem_of, settled_count, AreGivenBelow}
use Rattle.tnc_decode.specs.Printing.{print}

-- the text is the print of those items that remain of the samples of these octets that end below a position
pub record IsPrintBelow (position : ℕ) (words : DecodeWords) (octets text : List ℕ) : Type 0 where
  pub items : List Candidate
  pub are : AreGivenBelow (modem_of words octets) position (samples_read words octets) items
  pub is : text ≡ print words.frames (candidate_frames items)

-- how many samples these octets have, as their modem counts them: of several streams those of the least, and fifteen
-- fewer at 48,000 a second; by all lanes those that the last of them has passed, of the first stream; with blocks also what
-- ends with the last sample
abbrev pub sample_count : DecodeWords → List ℕ → ℕ
sample_count words octets = settled_count (modem_of words octets) (samples_read words octets)

-- what these octets settle, whatever follows: the frames that end below the number of their samples
abbrev pub IsSettled : DecodeWords → List ℕ → List ℕ → Type 0
IsSettled words octets text = IsPrintBelow (sample_count words octets) words octets text
