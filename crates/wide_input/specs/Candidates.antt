-- The candidates of samples at 48,000 a second: what the eight slicers of each of the five streams hear. Ends are
-- counted in the samples of the stream, and stream r has the lanes 8r to 8r + 7.
use Rattle.std.specs.Prelude.{◌≡◌, ℕ, ◌+◌, ◌*◌, ◌<◌, ℤ, List}
use Rattle.std.specs.List.{All, AllPairs, Contains}
use Rattle.frame_merge.specs.declared.candidate.Candidate.{Candidate}
use Rattle.frame_merge.specs.Order.{standing}
use Rattle.slicer_bank.specs.Candidates.{IsCandidate}
use Rattle.wide_input.specs.Streams.{stream}

-- a candidate of a stream, with the lane that it has among forty
abbrev pub in_stream : ℕ → Candidate → Candidate
in_stream number heard = record { end = heard.end; offset = 8 * number + heard.offset; octets = heard.octets }

-- the item is what a slicer of one of the streams hears
pub record IsWideCandidate (x : List ℤ) (item : Candidate) : Type 0 where
  pub number : ℕ
  pub within : number < 5
  pub heard : Candidate
  pub candidate : IsCandidate (stream number x) heard
  pub is : item ≡ in_stream number heard

-- the items are all candidates of the samples, each once, by end and then lane
pub record AreWideCandidates (x : List ℤ) (items : List Candidate) : Type 0 where
  pub each : All (IsWideCandidate x) items
  pub whole : (item : Candidate) → IsWideCandidate x item → Contains items item
  pub order : AllPairs (λ item later. standing item < standing later) items
