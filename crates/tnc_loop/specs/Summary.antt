-- What loop tells of the frames that it drew, sent and received again.
use Rattle.std.specs.Prelude.{◌≡◌, ℕ, List, [], ◌∷◌, ◌++◌, length, codes, decimal, Some}
use Rattle.std.specs.Int.{to_be_bytes, w64}
use Rattle.std.specs.List.{concat}
use Rattle.hex.specs.Hex.{encode_lower}
use Rattle.tnc_base.specs.Hash.{fnv_1a}
use Rattle.frame_merge.specs.declared.candidate.Candidate.{Candidate}
use Rattle.frame_merge.specs.Merged.{candidate_frames as frames_heard, merged}
use Rattle.slicer_bank.specs.Candidates.{AreCandidates}
use Rattle.clean_signal.specs.declared.true_end.TrueEnd.{TrueEnd}
use Rattle.clean_signal.specs.GoodTransmission.{frames_of}
use Rattle.clean_signal.specs.TrueEnds.{true_ends}
use Rattle.tnc_words.specs.declared.command.LoopWords.{LoopWords}
use Rattle.tnc_loop.specs.Drawn.{drawn, samples_drawn}
use Rattle.tnc_loop.specs.Strays.{strays, first_stray}

-- a hash in 16 lower-case hexadecimal digits
abbrev pub hash_digits : ℕ → List ℕ
hash_digits hash = encode_lower (to_be_bytes w64 hash)

-- Four lines: how many frames were made and how many heard, how many candidates were stray, and the hash of the heard
-- octets, one frame after another.
unfoldable pub summary : ℕ → List (List ℕ) → ℕ → List ℕ
summary made heard stray =
    codes "frames " ++ (decimal made ++ (10 ∷ (codes "heard " ++ (decimal (length heard) ++ (10 ∷ (codes "stray "
    ++ (decimal stray ++ (10 ∷ (codes "hash " ++ (hash_digits (fnv_1a (concat heard)) ++ 10 ∷ []))))))))))

-- the summary if the frames that were made are heard, and nothing else
abbrev pub clean_summary : LoopWords → List ℕ
clean_summary words = summary words.frames (frames_of (drawn words)) 0

-- the summary of candidates, if so many frames were made that have these true ends
abbrev pub summary_of : ℕ → List TrueEnd → List Candidate → List ℕ
summary_of made ends candidates = summary made (frames_heard (merged candidates)) (length (strays ends candidates))

-- The text is the summary of the candidates of the samples that were drawn. Samples have one list of candidates, so
-- words have one summary.
pub record IsSummary (words : LoopWords) (text : List ℕ) : Type 0 where
  pub candidates : List Candidate
  pub are : AreCandidates (samples_drawn words) candidates
  pub is : text ≡ summary_of words.frames (true_ends (drawn words)) candidates

-- the first candidate of those samples, by end and then offset, that is no frame that was sent has these octets
pub record IsFirstStray (words : LoopWords) (octets : List ℕ) : Type 0 where
  pub candidates : List Candidate
  pub are : AreCandidates (samples_drawn words) candidates
  pub is : first_stray (true_ends (drawn words)) candidates ≡ Some octets
