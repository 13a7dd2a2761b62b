-- What is heard by the same lanes if they read no blocks.
use Rattle.std.specs.Prelude.{◌≡◌, ℤ, List}
use Rattle.frame_merge.specs.declared.candidate.Candidate.{Candidate}
use Rattle.fx25_receiver.specs.declared.heard.Heard.{Heard}
use Rattle.fx25_receiver.specs.Heard.{IsHeard}

-- an item without its tag, and without where it would have ended plainly
abbrev pub candidate_of : Heard → Candidate
candidate_of item = record { end = item.end; offset = item.lane; octets = item.octets }

-- no block ends with any bit of a lane
abbrev pub HasNoBlock : List ℤ → Type 0
HasNoBlock x = (item : Heard) → IsHeard x item → item.tag ≡ 0
