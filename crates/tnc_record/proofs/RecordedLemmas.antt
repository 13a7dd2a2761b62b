-- The record of the recorder's reader stands in the published list.
use Rattle.tnc_record.proofs.Common.{ℤ, true, Some, ◌≡◌, ℕ, ◌<◌, ◌≤◌, List, [], ◌∷◌, length, map, sym, subst, ◌∙◌}
use Rattle.tnc_record.proofs.Common.{arith, false≢true, All-nil, All-cons, All-head, All-tail, Got, Entry, record_of}
use Rattle.tnc_record.proofs.Common.{answer, HeldRecorder, StandsFor, answers_of, items, losses, has_ended, Tile}
use Rattle.std.specs.Prelude.{slice_get}
use Rattle.std.specs.List.{All}
use Rattle.sample_ring.specs.declared.got.Got.TheVariants.{Item, Gap, Empty, End}
use Rattle.sample_ring.specs.Ends.{GoesForward}
use Rattle.sample_ring.specs.Record.{next, StandsAs, Stands, Tiles}
use Rattle.ring_recorder.specs.Recording.{Placed}

-- ---- samples

-- the sample is that of its position
abbrev IsPublished : List ℤ → Placed → Type 0
IsPublished published item = slice_get published item.at ≡ Some item.sample

one_more : (len known : ℕ) (published : List ℤ) (got : Got) (answers : List Got)
    → StandsAs len published true known got → All (IsPublished published) (items answers)
    → All (IsPublished published) (items (got ∷ answers))
one_more len known published (Item at sample) answers stands all =
    All-cons (IsPublished published) (record { at = at; sample = sample }) (items answers) stands all
one_more len known published (Gap from to) answers stands all = all
one_more len known published (Empty at) answers stands all = all
one_more len known published (End total) answers stands all = all

pub samples_stand : (len : ℕ) (published : List ℤ) (reads : List Entry) → All (Stands len published true) reads
    → All (λ item. slice_get published item.at ≡ Some item.sample) (items (map (answer len) reads))
samples_stand len published [] stand = All-nil (IsPublished published)
samples_stand len published (read ∷ reads) stand =
    one_more len read.known published (answer len read) (map (answer len) reads)
    (All-head (Stands len published true) read reads stand)
    (samples_stand len published reads (All-tail (Stands len published true) read reads stand))

-- ---- the end

goes_up : (at : ℕ) (got : Got) → GoesForward at got → at ≤ next got
goes_up at (Item place sample) on = let same : place ≡ at = on.0 in omega arith
goes_up at (Gap from to) on = let same : from ≡ at = on.0 in let up : from < to = on.1 in omega arith
goes_up at (Empty place) on = let same : place ≡ at = on.0 in omega arith
goes_up at (End total) on = let same : total ≡ at = on.0 in omega arith

abbrev AreForward : ℕ → List Entry → Type 0
AreForward len reads = All (λ read. GoesForward read.at (answer len read)) reads

rises : (len from : ℕ) (reads : List Entry) (to : ℕ) → Tiles len from reads to → AreForward len reads → from ≤ to
rises len from [] to tiles forward = let same : from ≡ to = tiles in omega arith
rises len from (read ∷ reads) to tiles forward =
    let up : read.at ≤ next (answer len read) =
    goes_up read.at (answer len read) (All-head (λ r. GoesForward r.at (answer len r)) read reads forward) in
    let on : next (answer len read) ≤ to =
    rises len (next (answer len read)) reads to tiles.1
    (All-tail (λ r. GoesForward r.at (answer len r)) read reads forward) in
    let same : read.at ≡ from = tiles.0 in
    omega arith

-- past its end a reader stands where the list ends
at_end : (len known to : ℕ) (published : List ℤ) (got : Got) (answers : List Got)
    → StandsAs len published true known got → next got ≤ to → (has_ended answers ≡ true → length published ≤ to)
    → has_ended (got ∷ answers) ≡ true → length published ≤ to
at_end len known to published (Item at sample) answers stands on later ended = later ended
at_end len known to published (Gap from end) answers stands on later ended = later ended
at_end len known to published (Empty at) answers stands on later ended = later ended
at_end len known to published (End total) answers stands on later ended =
    let all : length published ≡ total = stands.1 in omega arith

pub past_end : (len from : ℕ) (reads : List Entry) (to : ℕ) (published : List ℤ) → Tiles len from reads to
    → All (λ read. GoesForward read.at (answer len read)) reads → All (Stands len published true) reads
    → has_ended (map (answer len) reads) ≡ true → length published ≤ to
past_end len from [] to published tiles forward stand ended = absurd (false≢true ended)
past_end len from (read ∷ reads) to published tiles forward stand ended =
    let rest = All-tail (λ r. GoesForward r.at (answer len r)) read reads forward in
    at_end len read.known to published (answer len read) (map (answer len) reads)
    (All-head (Stands len published true) read reads stand)
    (rises len (next (answer len read)) reads to tiles.1 rest)
    (past_end len (next (answer len read)) reads to published tiles.1 rest
    (All-tail (Stands len published true) read reads stand)) ended

-- a recorder whose reader stands at the end of a list has tiled it
pub tiles_all : (len : ℕ) (held : HeldRecorder) (published : List ℤ) → StandsFor len held
    → (record_of held.reader).at ≡ length published
    → Tile (length published) (items (answers_of len held.reader)) (losses (answers_of len held.reader))
tiles_all len held published stands at =
    subst (λ l. Tile (length published) (items (answers_of len held.reader)) l) stands.losses_are
    (subst (λ n. Tile n (items (answers_of len held.reader)) held.losses) (sym held.reader.stands ∙ at) stands.tile)
