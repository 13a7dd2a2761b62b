-- What decode makes of the octets of its input.
use Rattle.std.specs.Prelude.{◌≡◌, ℕ, List}
use Rattle.frame_merge.specs.declared.candidate.Candidate.{Candidate}
use Rattle.frame_merge.specs.Merged.{candidate_frames}
use Rattle.tnc_words.specs.declared.command.DecodeWords.{DecodeWords}
use Rattle.tnc_decode.specs.Audio.{samples_read}
use Rattle.tnc_decode.specs.Modem.{modem_of, AreHeard, remaining}
use Rattle.tnc_decode.specs.Printing.{print}

-- The text is the print of what remains of what is heard of the input's samples. Samples have one list of candidates, so an
-- input has one text.
pub record IsDecoded (words : DecodeWords) (octets text : List ℕ) : Type 0 where
  pub candidates : List Candidate
  pub are : AreHeard (modem_of words octets) (samples_read words octets) candidates
  pub is : text ≡ print words.frames (candidate_frames (remaining (modem_of words octets) candidates))
