-- Which candidates at 48,000 samples a second are frames that were sent. A signal is near in one stream, and the other
-- streams hear it up to four samples later or earlier.
use Rattle.std.specs.Prelude.{◌≡◌, ℕ, ◌+◌, ◌*◌, ◌/◌, ℤ, List, Bool, true, nat_lt, ◌&&◌, map}
use Rattle.std.specs.List.{list_any}
use Rattle.std.specs.Str.{bytes_eq}
use Rattle.frame_merge.specs.declared.candidate.Candidate.{Candidate}
use Rattle.frame_merge.specs.Merged.{merged}
use Rattle.afsk_modulator.specs.Signal.{Transmission}
use Rattle.clean_signal.specs.declared.true_end.TrueEnd.{TrueEnd}
use Rattle.clean_signal.specs.TrueEnds.{true_ends}
use Rattle.wide_input.specs.Candidates.{IsWideCandidate, AreWideCandidates}

-- the place of an end of a stream among all samples
abbrev pub wide_place : ℕ → ℕ → ℕ
wide_place number end = 5 * end + number

-- where a candidate ends among all samples; its lane tells the stream
abbrev pub wide_end : Candidate → ℕ
wide_end item = wide_place (item.offset / 8) item.end

-- the item has the octets of a frame sent in a stream, and its end is less than 36 samples from the true one
abbrev pub is_of_wide : ℕ → Candidate → TrueEnd → Bool
is_of_wide number item sent =
    bytes_eq item.octets sent.octets
    && (nat_lt (wide_end item) (wide_place number sent.end + 36) && nat_lt (wide_place number sent.end)
    (wide_end item + 36))

-- the item is one of the frames that were sent in a stream
abbrev pub is_sent_wide : ℕ → List TrueEnd → Candidate → Bool
is_sent_wide number ends item = list_any (is_of_wide number item) ends

-- no candidate of the samples is stray, for transmissions that are near in the stream of a number
abbrev pub NoWideStray : ℕ → List Transmission → List ℤ → Type 0
NoWideStray number transmissions x = (item : Candidate) → IsWideCandidate x item
    → is_sent_wide number (true_ends transmissions) item ≡ true

-- the merged candidates of the samples have these octets, in this order
abbrev pub WideMergesTo : List (List ℕ) → List ℤ → Type 0
WideMergesTo frames x = (items : List Candidate) → AreWideCandidates x items
    → map (λ item. item.octets) (merged items) ≡ frames
