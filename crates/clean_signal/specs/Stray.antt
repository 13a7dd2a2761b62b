-- Which candidates are frames that were sent. One that is not is stray: noise, or bits of a frame, that meet the check
-- sequence.
use Rattle.std.specs.Prelude.{◌≡◌, ◌+◌, ℤ, List, Bool, true, nat_lt, ◌&&◌}
use Rattle.std.specs.List.{list_any}
use Rattle.std.specs.Str.{bytes_eq}
use Rattle.frame_merge.specs.declared.candidate.Candidate.{Candidate}
use Rattle.slicer_bank.specs.Candidates.{IsCandidate}
use Rattle.afsk_modulator.specs.Signal.{Transmission}
use Rattle.clean_signal.specs.declared.true_end.TrueEnd.{TrueEnd}
use Rattle.clean_signal.specs.TrueEnds.{true_ends}

-- the item has the octets of a sent frame, and its end is less than eight samples, one bit, from the true one
abbrev pub is_of : Candidate → TrueEnd → Bool
is_of item sent = bytes_eq item.octets sent.octets && (nat_lt item.end (sent.end + 8) && nat_lt sent.end (item.end + 8))

-- the item is one of the frames that were sent
abbrev pub is_sent : List TrueEnd → Candidate → Bool
is_sent ends item = list_any (is_of item) ends

-- no candidate of the samples is stray
abbrev pub NoStray : List Transmission → List ℤ → Type 0
NoStray transmissions x = (item : Candidate) → IsCandidate x item → is_sent (true_ends transmissions) item ≡ true
