-- What lanes hear that share one reader of a ring. A gap starts them anew, so they hear each stretch of its answers by
-- itself. `Heard` says what they hear of a stretch that has ended, and `Settled` what is due of one that goes on.
use Rattle.std.specs.Prelude.{◌≡◌, Bool, true, false, List, [], ◌∷◌, ◌++◌}
use Rattle.sample_ring.specs.declared.got.Got.{Got}
use Rattle.sample_ring.specs.declared.got.Got.TheVariants.{Item, Gap, Empty, End}
use Rattle.frame_merge.specs.declared.candidate.Candidate.{Candidate}
use Rattle.slicer_bank.specs.Stretches.{Stretch, stretch_at, with_sample, stretches, last_stretch}

-- the stretches of answers that a gap has ended, the first of which is under way
abbrev pub ended_from : Stretch → List Got → List Stretch
ended_from stretch [] = []
ended_from stretch (Item at x ∷ answers) = ended_from (with_sample stretch x) answers
ended_from stretch (Gap from to ∷ answers) = stretch ∷ ended_from (stretch_at to) answers
ended_from stretch (Empty at ∷ answers) = ended_from stretch answers
ended_from stretch (End total ∷ answers) = ended_from stretch answers

abbrev pub ended_stretches : List Got → List Stretch
ended_stretches answers = ended_from (stretch_at 0) answers

-- the items are what is heard of these stretches, one after another
abbrev pub AreHeardOf : (Stretch → List Candidate → Type 0) → List Stretch → List Candidate → Type 0
AreHeardOf Heard [] items = items ≡ []
AreHeardOf Heard (stretch ∷ others) items =
    (own : List Candidate) × (rest : List Candidate) × Heard stretch own × AreHeardOf Heard others rest
    × (items ≡ own ++ rest)

-- the items are all that is heard in these answers
abbrev pub AreHeardIn : (Stretch → List Candidate → Type 0) → List Got → List Candidate → Type 0
AreHeardIn Heard answers items = AreHeardOf Heard (stretches answers) items

-- the items are what is due by these answers: all of the stretches that gaps have ended, and of the last one what is
-- settled
pub record AreSettledIn (Heard Settled : Stretch → List Candidate → Type 0) (answers : List Got)
    (items : List Candidate) : Type 0 where
  pub earlier : List Candidate
  pub own : List Candidate
  pub ended : AreHeardOf Heard (ended_stretches answers) earlier
  pub settled : Settled (last_stretch answers) own
  pub are : items ≡ earlier ++ own

-- what is due by them, or all that is heard if the ring has ended
abbrev pub AreDueBy : (Heard Settled : Stretch → List Candidate → Type 0) → Bool → List Got → List Candidate → Type 0
AreDueBy Heard Settled false answers items = AreSettledIn Heard Settled answers items
AreDueBy Heard Settled true answers items = AreHeardIn Heard answers items

-- The items are what is due now and was not due before.
pub record AreDue (Heard Settled : Stretch → List Candidate → Type 0) (ended : Bool) (before now : List Got)
    (items : List Candidate) : Type 0 where
  pub given : List Candidate
  pub were : AreSettledIn Heard Settled before given
  pub are : AreDueBy Heard Settled ended now (given ++ items)
