-- What the lanes hear of a list whose first samples their readers have read: what is heard in these samples.
use Rattle.std.proofs.Common.{◌≡◌, ℕ, ◌+◌, ◌-◌, ◌*◌, ◌<◌, ◌≤◌, List, [], ◌++◌, length, take, drop, refl, ap, sym, subst}
use Rattle.std.proofs.Common.{◌∙◌, arith, inl, inr}
use Rattle.std.specs.Prelude.{ℤ, Bool, true, false}
use Rattle.std.proofs.lemmas.List.{length-take-le, take-append-drop}
use Rattle.hdlc_framer.specs.Frames.{EndsFrame}
use Rattle.offset_slicers.specs.Held.{offset_from}
use Rattle.offset_slicers.specs.Windows.{bits}
use Rattle.sample_ring.specs.declared.got.Got.{Got}
use Rattle.frame_merge.specs.declared.candidate.Candidate.{Candidate}
use Rattle.slicer_bank.specs.Candidates.{EndsAtBit, IsCandidate}
use Rattle.slicer_bank.specs.HeardOnRing.{EndsInStretch, IsHeardIn, IsHeardOnRing, lane_of}
use Rattle.slicer_bank.specs.Stretches.{Stretch, position_after}
use Rattle.slicer_bank.proofs.CandidateLemmas.{candidate_less, candidate_more, end_within}
use Rattle.sensitive_receiver.specs.AddedCandidates.{EndsAtPlace, IsAdded}
use Rattle.sensitive_receiver.specs.Candidates.{IsHeard}
use Rattle.sensitive_receiver.specs.Lanes.{added_places, delay_of}
use Rattle.sensitive_receiver.proofs.FoundLemmas.{delay_small}
use Rattle.sensitive_receiver.proofs.PrefixLanes.{ends-append, ends-take}
use Rattle.ring_receiver.specs.AddedOnRing.{IsAddedIn, moved}
use Rattle.ring_receiver.specs.HeardByAll.{IsHeardBy}
use Rattle.ring_receiver.specs.Readers.{readers_wanted}
use Rattle.hearing_laws.proofs.NoGap.{HasRead, first_of, has_stretch, position_read, the_stretch}

-- ---- the eight lanes

-- the offset from which a lane takes windows in a stretch from the first sample on
from_begin : (offset : ℕ) → offset < 8 → offset_from offset 0 ≡ offset
from_begin offset small = omega arith

-- a frame ends at a bit of the bits from an offset
EndsAtBitFrom : ℕ → List ℤ → Candidate → ℕ → Type 0
EndsAtBitFrom from x item index =
    (index < length (bits from x)) × (item.end ≡ from + 8 * (index + 1))
    × EndsFrame (take (index + 1) (bits from x)) item.octets

in_samples : (x : List ℤ) (item : Candidate) (index : ℕ) → item.offset < 8
    → EndsInStretch (record { begin = 0; samples = x }) item index → EndsAtBit x item index
unfolding EndsAtBitFrom
in_samples x item index small h =
    let end = h.end_of in
    let parts : EndsAtBitFrom item.offset x item index =
    subst (λ from. EndsAtBitFrom from x item index) (from_begin item.offset small) (h.within, omega arith, h.frame) in
    record { within = parts.0; end_of = parts.1; frame = parts.2 }

in_stretch : (x : List ℤ) (item : Candidate) (index : ℕ) → item.offset < 8 → EndsAtBit x item index
    → EndsInStretch (record { begin = 0; samples = x }) item index
unfolding EndsAtBitFrom
in_stretch x item index small h =
    let parts : EndsAtBitFrom (offset_from item.offset 0) x item index =
    subst (λ from. EndsAtBitFrom from x item index) (sym (from_begin item.offset small))
    (h.within, h.end_of, h.frame) in
    let end = parts.1 in
    record { within = parts.0; end_of = omega arith; frame = parts.2 }

-- what a lane hears is heard in all samples
lane_hears : (x : List ℤ) (answers : List Got) (item : Candidate) → HasRead x answers → item.offset < 8
    → IsHeardIn answers item → IsCandidate x item
lane_hears x answers item h small heard =
    let first : IsCandidate (take h.place x) item = record {
      offset = small;
      index = heard.index;
      ends = in_samples (take h.place x) item heard.index small
          (subst (λ s. EndsInStretch s item heard.index) (the_stretch x answers h heard.stretch heard.is) heard.ends);
    } in
    subst (λ xs. IsCandidate xs item) (take-append-drop h.place x)
    (candidate_more (take h.place x) (drop h.place x) item first)

-- and what ends in all samples where the lane has read is heard by it
lane_heard : (x : List ℤ) (answers : List Got) (item : Candidate) → HasRead x answers → IsCandidate x item
    → item.end ≤ position_after answers → IsHeardIn answers item
lane_heard x answers item h is before =
    let at = position_read x answers h in
    let size = length-take-le h.place x h.within in
    let first : IsCandidate (take h.place x) item = candidate_less (take h.place x) (drop h.place x) item
    (subst (λ xs. IsCandidate xs item) (sym (take-append-drop h.place x)) is) (omega arith) in
    record {
      stretch = first_of x h.place;
      is = has_stretch x answers h;
      index = first.index;
      ends = in_stretch (take h.place x) item first.index is.offset first.ends;
    }

-- ---- the added lanes

-- places of a list that begins with the first sample are its own
not_moved : (item : Candidate) → moved 0 item ≡ item
not_moved item = ap (λ end. record item { end = end }) (let none : 0 + item.end ≡ item.end = omega arith in none)

more_added : (x y : List ℤ) (item : Candidate) → length x ≤ length (x ++ y) → IsAdded x item → IsAdded (x ++ y) item
more_added x y item longer h =
    let inside = h.decided in
    record { place = h.place; decided = omega arith; ends = ends-append x y item h.place h.decided h.ends }

added_hears : (x : List ℤ) (answers : List Got) (item : Candidate) → HasRead x answers → IsAddedIn answers item
    → IsAdded x item
added_hears x answers item h heard =
    let whole = take-append-drop h.place x in
    let size = length-take-le h.place x h.within in
    let within = h.within in
    let longer : length (take h.place x) ≤ length (take h.place x ++ drop h.place x) =
    subst (λ xs. length (take h.place x) ≤ length xs) (sym whole) (omega arith) in
    let same : heard.stretch ≡ first_of x h.place = the_stretch x answers h heard.stretch heard.is in
    let first : IsAdded (take h.place x) heard.heard =
    subst (λ (s : Stretch). IsAdded s.samples heard.heard) same heard.added in
    let is : item ≡ heard.heard = heard.item_is
    ∙ ap (λ (s : Stretch). moved s.begin heard.heard) same ∙ not_moved heard.heard in
    subst (IsAdded x) (sym is) (subst (λ xs. IsAdded xs heard.heard) whole
    (more_added (take h.place x) (drop h.place x) heard.heard longer first))

added_heard : (x : List ℤ) (answers : List Got) (item : Candidate) → HasRead x answers → (is : IsAdded x item)
    → is.place < added_places (position_after answers) → IsAddedIn answers item
added_heard x answers item h is before =
    let size = length-take-le h.place x h.within in
    let inside : is.place < added_places (length (take h.place x)) =
    subst (λ n. is.place < added_places n) (position_read x answers h ∙ sym size) before in
    record {
      stretch = first_of x h.place;
      is = has_stretch x answers h;
      heard = item;
      added = record {
        place = is.place;
        decided = inside;
        ends = ends-take (take h.place x) (drop h.place x) item is.place inside
            (subst (λ xs. EndsAtPlace xs item is.place) (sym (take-append-drop h.place x)) is.ends);
      };
      item_is = sym (not_moved item);
    }

-- what ends far enough before a position is heard at a place that is decided there
pub decided_before : (x : List ℤ) (item : Candidate) (position : ℕ) → (is : IsAdded x item) → item.end < position - 32
    → is.place < added_places position
decided_before x item position is before =
    let end = is.ends.end_of in
    let least = is.ends.least in
    let delay = delay_small item.offset is.ends.most in
    omega arith

-- ---- all lanes

-- what the lanes that listen hear in samples
abbrev pub IsHeardIf : Bool → List ℤ → Candidate → Type 0
IsHeardIf false x item = IsCandidate x item
IsHeardIf true x item = IsHeard x item

-- each reader has read the first samples of a list
abbrev pub HaveRead : Bool → List ℤ → List (List Got) → Type 0
HaveRead sensitive x lanes = (lane : ℕ) → lane < readers_wanted sensitive → HasRead x (lane_of lanes lane)

ring_hears : (count : ℕ) (x : List ℤ) (lanes : List (List Got)) (item : Candidate) → 8 ≤ count
    → ((lane : ℕ) → lane < count → HasRead x (lane_of lanes lane)) → IsHeardOnRing lanes item → IsCandidate x item
ring_hears count x lanes item eight read h =
    let small = h.offset in
    lane_hears x (lane_of lanes item.offset) item (read item.offset (omega arith)) h.offset h.heard

-- what the lanes hear is heard in all samples
pub hears : (sensitive : Bool) (x : List ℤ) (lanes : List (List Got)) (item : Candidate) → HaveRead sensitive x lanes
    → IsHeardBy sensitive lanes item → IsHeardIf sensitive x item
hears false x lanes item read h = ring_hears 8 x lanes item (omega arith) read h
hears true x lanes item read (inl h) = inl (ring_hears 9 x lanes item (omega arith) read h)
hears true x lanes item read (inr h) = inr (added_hears x (lane_of lanes 8) item (read 8 (omega arith)) h)

-- an item that is heard in all samples ends where its lane has read
abbrev pub IsWithin : Bool → List ℤ → List (List Got) → Candidate → Type 0
IsWithin false x lanes item = IsCandidate x item → item.end ≤ position_after (lane_of lanes item.offset)
IsWithin true x lanes item =
    (IsCandidate x item → item.end ≤ position_after (lane_of lanes item.offset))
    × ((is : IsAdded x item) → is.place < added_places (position_after (lane_of lanes 8)))

-- then the lanes hear it
pub heard : (sensitive : Bool) (x : List ℤ) (lanes : List (List Got)) (item : Candidate) → HaveRead sensitive x lanes
    → IsWithin sensitive x lanes item → IsHeardIf sensitive x item → IsHeardBy sensitive lanes item
heard false x lanes item read within h = record {
  offset = h.offset;
  heard = lane_heard x (lane_of lanes item.offset) item (read item.offset h.offset) h (within h);
}
heard true x lanes item read within (inl h) =
    let small = h.offset in
    inl (record {
      offset = h.offset;
      heard = lane_heard x (lane_of lanes item.offset) item (read item.offset (omega arith)) h (within.0 h);
    })
heard true x lanes item read within (inr h) =
    inr (added_heard x (lane_of lanes 8) item (read 8 (omega arith)) h (within.1 h))

-- all items are within lanes that have read all samples
pub all_within : (sensitive : Bool) (x : List ℤ) (lanes : List (List Got)) (item : Candidate)
    → ((lane : ℕ) → lane < readers_wanted sensitive → position_after (lane_of lanes lane) ≡ length x)
    → IsWithin sensitive x lanes item
all_within false x lanes item all = λ h.
    let at = all item.offset h.offset in let end = end_within x item h in omega arith
all_within true x lanes item all = (
  λ h. let small = h.offset in
      let at : position_after (lane_of lanes item.offset) ≡ length x = all item.offset (omega arith) in
      let end = end_within x item h in
      omega arith,
  λ is. subst (λ n. is.place < added_places n) (sym (all 8 (omega arith))) is.decided,
)

-- the lanes of what is heard
pub lane_small : (sensitive : Bool) (x : List ℤ) (item : Candidate) → IsHeardIf sensitive x item → item.offset < 256
lane_small false x item h = let small = h.offset in omega arith
lane_small true x item (inl h) = let small = h.offset in omega arith
lane_small true x item (inr h) = let most = h.ends.most in omega arith
