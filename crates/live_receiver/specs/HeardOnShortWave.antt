-- What the lanes of short wave hear that share one reader of a ring. `sensitive` says that the added lanes listen, too:
-- then they are the 59 lanes of a sensitive decoder, and the 32 of a decoder otherwise. A gap starts them anew, so they
-- hear each stretch of the reader's answers by itself, as the decoder hears samples. Places are those of the whole input:
-- an end counts fours of its samples, rounded down, and one of the 32 lanes is named by the place past its last window
-- modulo 32.
use Rattle.std.specs.Prelude.{◌≡◌, ℕ, ◌+◌, ◌*◌, ◌-◌, ◌/◌, ◌%◌, ◌<◌, ◌⊎◌, Bool, true, false, List}
use Rattle.std.specs.List.{All, AllPairs, Contains}
use Rattle.sample_ring.specs.declared.got.Got.{Got}
use Rattle.frame_merge.specs.declared.candidate.Candidate.{Candidate}
use Rattle.frame_merge.specs.Merged.{merged, between, not_below}
use Rattle.frame_merge.specs.Order.{standing}
use Rattle.slicer_bank.specs.Stretches.{Stretch, position_after}
use Rattle.stretch_reader.specs.EachHeard.{IsIn}
use Rattle.hf_modem.specs.Candidates.{IsCandidate, end_sample}
use Rattle.hf_sensitive.specs.AddedCandidates.{IsAdded}

-- how many lanes listen
abbrev pub lanes_in : Bool → ℕ
lanes_in false = 32
lanes_in true = 59

-- how many fours of samples after its end a frame can still be heard
abbrev pub following : Bool → ℕ
following false = 0
following true = 17

-- what is heard that ends at a place
abbrev pub placed : ℕ → Candidate → Candidate
placed place heard = record { end = place / 4; offset = place % 32; octets = heard.octets }

-- what one of the 32 lanes hears in a stretch that begins at a place, counted from the begin of the input
abbrev pub moved : ℕ → Candidate → Candidate
moved begin heard = placed (begin + end_sample heard) heard

-- what an added lane hears in it: these keep their numbers
abbrev pub moved_added : ℕ → Candidate → Candidate
moved_added begin heard = record heard { end = (begin + 4 * heard.end) / 4 }

-- the item is what one of the 32 lanes hears in a stretch
pub record IsHeardByOne (stretch : Stretch) (item : Candidate) : Type 0 where
  pub heard : Candidate
  pub candidate : IsCandidate stretch.samples heard
  pub item_is : item ≡ moved stretch.begin heard

-- the item is what an added lane hears in a stretch
pub record IsAddedInOne (stretch : Stretch) (item : Candidate) : Type 0 where
  pub heard : Candidate
  pub added : IsAdded stretch.samples heard
  pub item_is : item ≡ moved_added stretch.begin heard

-- the item is what some lane that listens hears in a stretch
abbrev pub IsHeardInOne : Bool → Stretch → Candidate → Type 0
IsHeardInOne false stretch item = IsHeardByOne stretch item
IsHeardInOne true stretch item = IsHeardByOne stretch item ⊎ IsAddedInOne stretch item

-- the item is what a lane hears in the samples of some stretch of these answers
abbrev pub IsHeardIn : Bool → List Got → Candidate → Type 0
IsHeardIn sensitive answers item = IsIn (IsHeardInOne sensitive) answers item

-- the items are all that the lanes hear, each once, by end and then lane
pub record AreHeard (sensitive : Bool) (answers : List Got) (items : List Candidate) : Type 0 where
  pub each : All (IsHeardIn sensitive answers) items
  pub whole : (item : Candidate) → IsHeardIn sensitive answers item → Contains items item
  pub order : AllPairs (λ item later. standing item < standing later) items

-- the end below which the lanes hear nothing more
abbrev pub settled_end : Bool → List Got → ℕ
settled_end sensitive answers = position_after answers / 4 - following sensitive

-- the items are those of what the lanes hear, merged, that end from one end to below another
pub record AreMerged (sensitive : Bool) (from to : ℕ) (answers : List Got) (items : List Candidate) : Type 0 where
  pub candidates : List Candidate
  pub are : AreHeard sensitive answers candidates
  pub is : items ≡ between from to (merged candidates)

-- the items are all those of what the lanes hear, merged, that do not end below an end
pub record AreRest (sensitive : Bool) (from : ℕ) (answers : List Got) (items : List Candidate) : Type 0 where
  pub candidates : List Candidate
  pub are : AreHeard sensitive answers candidates
  pub is : items ≡ not_below from (merged candidates)

-- An item is due once the lanes can hear nothing more that ends before it, and every item that is left once the ring has
-- ended.
abbrev pub AreDue : Bool → Bool → List Got → List Got → List Candidate → Type 0
AreDue sensitive false before now items =
    AreMerged sensitive (settled_end sensitive before) (settled_end sensitive now) now items
AreDue sensitive true before now items = AreRest sensitive (settled_end sensitive before) now items
