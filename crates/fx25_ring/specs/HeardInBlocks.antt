-- What the lanes hear that share one reader of a ring and read blocks of FX.25, too. `sensitive` says that all 26 listen in
-- place of the eight. A gap starts them anew, so they hear each stretch of its answers by itself, as a receiver of FX.25
-- hears samples. Places are those of the whole input.
use Rattle.std.specs.Prelude.{◌≡◌, ◌⊎◌, ℕ, ◌+◌, ◌%◌, Bool, true, false, ℤ, List, length, map, filter, nat_lt}
use Rattle.sample_ring.specs.declared.got.Got.{Got}
use Rattle.frame_merge.specs.declared.candidate.Candidate.{Candidate}
use Rattle.slicer_bank.specs.Busy.{HearsCarrier}
use Rattle.slicer_bank.specs.Stretches.{Stretch}
use Rattle.fx25_receiver.specs.Coming.{HearsBlock}
use Rattle.fx25_receiver.specs.Merged.{AreMerged as AreMergedByEight}
use Rattle.fx25_receiver.specs.declared.heard.Heard.{Heard}
use Rattle.sensitive_blocks.specs.Heard.{AreMerged as AreMergedByAll, settled}
use Rattle.stretch_reader.specs.HeardInStretches.{AreDue, AreHeardIn}

-- What is heard in a stretch that begins at a place, counted from the begin of the input. A lane is named by its ends
-- modulo 8; so are the ends of an added lane.
abbrev pub placed : ℕ → Heard → Candidate
placed begin item = record { end = begin + item.end; offset = (begin + item.end) % 8; octets = item.octets }

-- the items are what the lanes hear of samples, merged
abbrev pub AreMergedBy : Bool → List ℤ → List Heard → Type 0
AreMergedBy false x items = AreMergedByEight x items
AreMergedBy true x items = AreMergedByAll x items

-- What of it is settled: the eight lanes hear an item as it ends, and all lanes one that ends below the settled position.
abbrev pub settled_of : Bool → List ℤ → List Heard → List Heard
settled_of false x items = items
settled_of true x items = filter (λ item. nat_lt item.end (settled (length x))) items

-- the items are what is heard of a stretch
abbrev pub AreHeardInOne : Bool → Stretch → List Candidate → Type 0
AreHeardInOne sensitive stretch items =
    (own : List Heard) × AreMergedBy sensitive stretch.samples own × (items ≡ map (placed stretch.begin) own)

-- the items are what of it is settled
abbrev pub AreSettledInOne : Bool → Stretch → List Candidate → Type 0
AreSettledInOne sensitive stretch items =
    (own : List Heard) × AreMergedBy sensitive stretch.samples own
    × (items ≡ map (placed stretch.begin) (settled_of sensitive stretch.samples own))

-- the items are all that is heard in these answers
abbrev pub AreHeardInBlocks : Bool → List Got → List Candidate → Type 0
AreHeardInBlocks sensitive answers items = AreHeardIn (AreHeardInOne sensitive) answers items

-- The items are what is due now and was not due before: an item is due as soon as it is settled, and every item that is
-- left once a gap or the end of the ring, which `ended` tells, has ended its stretch.
abbrev pub AreDueInBlocks : Bool → Bool → List Got → List Got → List Candidate → Type 0
AreDueInBlocks sensitive ended before now items =
    AreDue (AreHeardInOne sensitive) (AreSettledInOne sensitive) ended before now items

-- another station is heard in a stretch: by so many flags in a row in some lane, or by a block that comes in
abbrev pub HearsStation : ℕ → Stretch → Type 0
HearsStation flags stretch = HearsCarrier flags stretch.samples ⊎ HearsBlock stretch.samples
