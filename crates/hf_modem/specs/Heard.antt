-- What is heard of one window.
use Rattle.std.specs.Prelude.{◌≡◌, ℕ, List, Bool, Option, None, Some}
use Rattle.hdlc_framer.specs.Frames.{EndsFrame}
use Rattle.frame_merge.specs.declared.candidate.Candidate.{Candidate}
use Rattle.hf_modem.specs.Candidates.{candidate_at}

-- what the lane of an offset hears at a place, if it has these bits: the frame that ends with them, if one does
abbrev pub IsHeard : ℕ → ℕ → List Bool → Option Candidate → Type 0
IsHeard offset at bits None = (octets : List ℕ) → ¬ EndsFrame bits octets
IsHeard offset at bits (Some item) = (octets : List ℕ) × (item ≡ candidate_at at offset octets) × EndsFrame bits octets
