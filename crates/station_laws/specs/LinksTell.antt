-- What a link tells its owner: whether a set-up runs, and that data is told of only while one does.
use Rattle.std.specs.Prelude.{◌≡◌, ◌⊎◌, Bool, true, false, List, [], ◌∷◌}
use Rattle.link_machine.specs.declared.acts.Told.{Told}
use Rattle.link_machine.specs.declared.acts.Told.TheVariants.{Opened, Given, Ended}
use Rattle.link_machine.specs.declared.state.LinkState.{LinkState}
use Rattle.link_machine.specs.declared.state.LinkState.TheVariants.{Up, Releasing}
use Rattle.link_machine.specs.Event.{Event}
use Rattle.link_machine.specs.Machine.{Machine}
use Rattle.link_machine.specs.Step.{step}

-- whether a set-up runs after what is told, by whether one ran before: from when it is told to be open until it has
-- ended
abbrev pub runs_after : Bool → List Told → Bool
runs_after runs [] = runs
runs_after runs (Opened ours ∷ told) = runs_after true told
runs_after runs (Given packet ∷ told) = runs_after runs told
runs_after runs (Ended why ∷ told) = runs_after false told

-- data is told of only while a set-up runs
abbrev pub AreToldInOne : Bool → List Told → Type 0
AreToldInOne runs [] = Unit {0}
AreToldInOne runs (Opened ours ∷ told) = AreToldInOne true told
AreToldInOne runs (Given packet ∷ told) = (runs ≡ true) × AreToldInOne runs told
AreToldInOne runs (Ended why ∷ told) = AreToldInOne false told

-- The set-up of a link that is up runs, and one that runs is of a link that is up or is being released.
pub record RunsIn (runs : Bool) (state : LinkState) : Type 0 where
  pub up : state ≡ Up → runs ≡ true
  pub only : runs ≡ true → (state ≡ Up) ⊎ (state ≡ Releasing)

-- Each event keeps this, and tells of data only while a set-up runs.
pub record TellsInOne (runs : Bool) (m : Machine) (event : Event) : Type 0 where
  pub told : AreToldInOne runs (step m event).told
  pub now : RunsIn (runs_after runs (step m event).told) (step m event).now.control.state

abbrev pub LinksTellInOne : Type 0
LinksTellInOne = (m : Machine) (event : Event) (runs : Bool) → RunsIn runs m.control.state → TellsInOne runs m event
