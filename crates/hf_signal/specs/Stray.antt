-- Which candidates are frames that were sent. One that is not is stray: noise, or bits of a frame, that meet the check
-- sequence.
use Rattle.std.specs.Prelude.{◌≡◌, ◌+◌, ℤ, List, Bool, true, nat_lt, ◌&&◌}
use Rattle.std.specs.List.{list_any}
use Rattle.std.specs.Str.{bytes_eq}
use Rattle.frame_merge.specs.declared.candidate.Candidate.{Candidate}
use Rattle.afsk_modulator.specs.Signal.{Transmission}
use Rattle.clean_signal.specs.declared.true_end.TrueEnd.{TrueEnd}
use Rattle.hf_modem.specs.Candidates.{IsCandidate, end_sample}
use Rattle.hf_signal.specs.TrueEnds.{true_ends}

-- The item has the octets of a sent frame, and the sample at which it ends is less than 30 from the true end. Ends of
-- one frame then lie within 15 quarters, so that merging keeps one.
abbrev pub is_of : Candidate → TrueEnd → Bool
is_of item sent = bytes_eq item.octets sent.octets &&
    (nat_lt (end_sample item) (sent.end + 30) && nat_lt sent.end (end_sample item + 30))

-- the item is one of the frames that were sent
abbrev pub is_sent : List TrueEnd → Candidate → Bool
is_sent ends item = list_any (is_of item) ends

-- no candidate of the samples is stray
abbrev pub NoStray : List Transmission → List ℤ → Type 0
NoStray transmissions x = (item : Candidate) → IsCandidate x item → is_sent (true_ends transmissions) item ≡ true
