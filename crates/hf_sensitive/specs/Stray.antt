-- What a sensitive receiver of short wave makes of a signal, and which of its candidates are stray.
use Rattle.std.specs.Prelude.{◌≡◌, ◌+◌, ◌*◌, ℕ, ℤ, List, map, Bool, true, nat_lt, ◌&&◌, if◌then◌else◌}
use Rattle.std.specs.List.{list_any}
use Rattle.std.specs.Str.{bytes_eq}
use Rattle.frame_merge.specs.declared.candidate.Candidate.{Candidate}
use Rattle.frame_merge.specs.Merged.{merged}
use Rattle.afsk_modulator.specs.Signal.{Transmission}
use Rattle.clean_signal.specs.declared.true_end.TrueEnd.{TrueEnd}
use Rattle.hf_modem.specs.Candidates.{end_sample}
use Rattle.hf_signal.specs.TrueEnds.{true_ends}
use Rattle.hf_sensitive.specs.Candidates.{IsHeard, AreHeard}

-- The first sample after the last window of an item. Windows of an added lane begin at each fourth sample, so its end has
-- no rest.
abbrev pub last_sample : Candidate → ℕ
last_sample item = if nat_lt item.offset 32 then end_sample item else 4 * item.end

-- the item has the octets of a sent frame, and the sample at which it ends is less than 30 from the true end
abbrev pub is_of : Candidate → TrueEnd → Bool
is_of item sent = bytes_eq item.octets sent.octets &&
    (nat_lt (last_sample item) (sent.end + 30) && nat_lt sent.end (last_sample item + 30))

-- the item is one of the frames that were sent
abbrev pub is_sent : List TrueEnd → Candidate → Bool
is_sent ends item = list_any (is_of item) ends

-- no candidate of any of the 59 lanes is stray
abbrev pub NoneStray : List Transmission → List ℤ → Type 0
NoneStray transmissions x = (item : Candidate) → IsHeard x item → is_sent (true_ends transmissions) item ≡ true

-- the merged candidates of all lanes have these octets, in this order
abbrev pub MergesTo : List (List ℕ) → List ℤ → Type 0
MergesTo frames x = (items : List Candidate) → AreHeard x items → map (λ item. item.octets) (merged items) ≡ frames
