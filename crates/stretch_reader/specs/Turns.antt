-- What one read, and one turn of reads, make of lanes. `Holds` says of lanes that they have heard a stretch and gave these
-- items of it, and `Listens` that those by which other stations are heard have heard it.
use Rattle.std.specs.Prelude.{◌≡◌, ◌↔◌, ℕ, ℤ, true, List, [], ◌∷◌, ◌++◌, map}
use Rattle.sample_ring.specs.declared.got.Got.{Got}
use Rattle.sample_ring.specs.declared.got.Got.TheVariants.{Item, Gap, Empty, End}
use Rattle.sample_ring.specs.declared.reader.Reader.{Reader}
use Rattle.sample_ring.specs.declared.view.Entry.{Entry}
use Rattle.sample_ring.specs.Ends.{GoesForward, position_of, reads_of}
use Rattle.sample_ring.specs.Record.{answer, next}
use Rattle.frame_merge.specs.declared.candidate.Candidate.{Candidate}
use Rattle.slicer_bank.specs.declared.advance.LaneGap.{LaneGap}
use Rattle.slicer_bank.specs.RingLanes.{answers_of}
use Rattle.slicer_bank.specs.RingTurns.{IsReading, Leads, MeetsEnd, gaps_of}
use Rattle.slicer_bank.specs.Stretches.{Stretch, last_stretch, stretch_after, stretch_at, with_sample}
use Rattle.stretch_reader.specs.HeardInStretches.{AreHeardOf, ended_stretches}
use Rattle.stretch_reader.specs.declared.turn.Turn.{Turn}

-- a stretch with more samples
abbrev pub with_samples : Stretch → List ℤ → Stretch
with_samples stretch xs = record { begin = stretch.begin; samples = stretch.samples ++ xs }

-- Lanes that had given these items of a stretch, which has grown, add more.
pub record Brings (Holds : Stretch → List Candidate → Type 0) (stretch : Stretch) (own before items : List Candidate)
    : Type 0 where
  pub more : List Candidate
  pub holds : Holds stretch (own ++ more)
  pub brought : items ≡ before ++ more

-- they add the rest of it
pub record Finishes (Heard : Stretch → List Candidate → Type 0) (stretch : Stretch) (own before items : List Candidate)
    : Type 0 where
  pub more : List Candidate
  pub heard : Heard stretch (own ++ more)
  pub brought : items ≡ before ++ more

-- they have heard the stretch but for its last samples, which wait
pub record HoldBut (Holds : Stretch → List Candidate → Type 0) (waiting : List ℤ) (stretch : Stretch)
    (own : List Candidate) : Type 0 where
  pub first : List ℤ
  pub parts : stretch.samples ≡ first ++ waiting
  pub holds : Holds (record { begin = stretch.begin; samples = first }) own

-- so have those by which other stations are heard
pub record ListenBut (Listens : Stretch → Type 0) (waiting : List ℤ) (stretch : Stretch) : Type 0 where
  pub first : List ℤ
  pub parts : stretch.samples ≡ first ++ waiting
  pub listens : Listens (record { begin = stretch.begin; samples = first })

-- What lanes make of an answer, which had heard a stretch and given these items of it. `Holds` is of the lanes after it.
abbrev pub HearsWith : (Heard Holds : Stretch → List Candidate → Type 0) → Stretch → List Candidate → Got
    → List Candidate → List Candidate → Type 0
HearsWith Heard Holds stretch own (Item at x) before items = Holds (with_sample stretch x) own × (items ≡ before)
HearsWith Heard Holds stretch own (Gap from to) before items =
    Finishes Heard stretch own before items × Holds (stretch_at to) []
HearsWith Heard Holds stretch own (Empty at) before items = Holds stretch own × (items ≡ before)
HearsWith Heard Holds stretch own (End total) before items = Holds stretch own × (items ≡ before)

-- The reader has read once, with this answer. A gap that it was told of is added to those of before.
pub record Took (Heard HoldBefore HoldAfter : Stretch → List Candidate → Type 0)
    (ListenBefore ListenAfter : Stretch → Type 0) (len lane : ℕ) (before after : Reader) (got : Got)
    (told_before told : List LaneGap) (items_before items : List Candidate) : Type 0 where
  pub entry : Entry
  pub is : got ≡ answer len entry
  pub read : reads_of after ≡ reads_of before ++ entry ∷ []
  pub forward : GoesForward (position_of before) got
  pub position : position_of after ≡ next got
  pub gaps : told ≡ told_before ++ gaps_of lane (got ∷ [])
  pub listens : (s : Stretch) → ListenBefore s → ListenAfter (stretch_after s got)
  pub heard : (s : Stretch) (own : List Candidate) → HoldBefore s own
      → HearsWith Heard HoldAfter s own got items_before items

-- lanes have heard the last stretch of these answers, and gave these items of all of them
pub record HaveHeard (Heard Holds : Stretch → List Candidate → Type 0) (answers : List Got) (given : List Candidate)
    : Type 0 where
  pub earlier : List Candidate
  pub own : List Candidate
  pub ended : AreHeardOf Heard (ended_stretches answers) earlier
  pub holds : Holds (last_stretch answers) own
  pub given_is : given ≡ earlier ++ own

-- the reader has gone on by these answers, with these gaps, and the lanes gave these items
pub record WentOn (Heard HoldBefore HoldAfter : Stretch → List Candidate → Type 0)
    (ListenBefore ListenAfter : Stretch → Type 0) (len lane : ℕ) (before after : Reader)
    (answers : List Got) (told : List LaneGap) (items : List Candidate) : Type 0 where
  pub entries : List Entry
  pub are : answers ≡ map (answer len) entries
  pub read : reads_of after ≡ reads_of before ++ entries
  pub forward : Leads (position_of before) answers (position_of after)
  pub gaps : told ≡ gaps_of lane answers
  pub listens : ListenBefore (last_stretch (answers_of len before)) → ListenAfter (last_stretch (answers_of len after))
  pub heard : (given : List Candidate) → HaveHeard Heard HoldBefore (answers_of len before) given
      → HaveHeard Heard HoldAfter (answers_of len after) (given ++ items)

-- the reader has made its turn
pub record MadeTurn (Heard HoldBefore HoldAfter : Stretch → List Candidate → Type 0)
    (ListenBefore ListenAfter : Stretch → Type 0) (len lane : ℕ) (before after : Reader) (turn : Turn) : Type 0 where
  pub answers : List Got
  pub on : WentOn Heard HoldBefore HoldAfter ListenBefore ListenAfter len lane before after answers turn.gaps.items
      turn.items.items
  pub reading : IsReading answers
  pub met : (turn.ended ≡ true) ↔ MeetsEnd answers
