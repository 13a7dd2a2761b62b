-- What the link of two calls tells at a station in a whole run: data only while a set-up runs.
use Rattle.std.specs.Prelude.{ℕ, Bool, false, List, [], ◌∷◌}
use Rattle.link_machine.specs.declared.acts.Told.{Told}
use Rattle.link_machine.specs.declared.state.LinkState.{LinkState}
use Rattle.link_machine.specs.declared.state.LinkState.TheVariants.{Idle}
use Rattle.link_machine.specs.Step.{step as link_turn}
use Rattle.link_world.specs.declared.end.End.{End}
use Rattle.link_world.specs.declared.end.End.TheVariants.{A, B}
use Rattle.station.specs.declared.config.Config.{Config}
use Rattle.station.specs.Links.{Link}
use Rattle.std.specs.Prelude.{Option, Some, None}
use Rattle.station_laws.specs.HeardInOrder.{AreHeardInOrder}
use Rattle.station_laws.specs.JointRun.{Step, new_stations, IsJointRun, all_stepped, state_of}
use Rattle.station_laws.specs.LinkOfCalls.{Calls, Pairs, link_at_end}
use Rattle.station_laws.specs.LinkSteps.{LinkStep}
use Rattle.station_laws.specs.LinksTell.{AreToldInOne, RunsIn, runs_after}
use Rattle.station_laws.specs.SetUpsSeen.{link_steps_at}
use Rattle.station_laws.specs.StationsLaw.{first_chosen}

-- what an event of the link tells
abbrev pub told_in : LinkStep → List Told
told_in step = (link_turn step.link.machine step.event).told

-- whether a set-up runs after these events
abbrev pub runs_following : Bool → List LinkStep → Bool
runs_following runs [] = runs
runs_following runs (step ∷ steps) = runs_following (runs_after runs (told_in step)) steps

-- each event tells of data only while a set-up runs
abbrev pub AllToldInOne : Bool → List LinkStep → Type 0
AllToldInOne runs [] = Unit {0}
AllToldInOne runs (step ∷ steps) =
    AreToldInOne runs (told_in step) × AllToldInOne (runs_after runs (told_in step)) steps

-- the state of the link at a station; a link that is not there is idle
abbrev pub state_of_link : Option Link → LinkState
state_of_link None = Idle
state_of_link (Some link) = link.machine.control.state

-- at one of the stations, and how its link stands then
pub record ToldInOneAt (calls : Calls) (end : End) (steps : List Step) (links : List (Option Link)) : Type 0 where
  pub told : AllToldInOne false (link_steps_at calls end steps)
  pub now : RunsIn (runs_following false (link_steps_at calls end steps))
      (state_of_link (first_chosen (link_at_end calls end) links))

-- Over every joint run of two new stations in which the frames of the link are heard in order, at both.
abbrev pub RunsTellInOne : Type 0
RunsTellInOne =
    (a b : Config) (seed_a seed_b : ℕ) (steps : List Step) (calls : Calls) (pairs : Pairs)
    → let start = new_stations a seed_a b seed_b in
    IsJointRun start steps → AreHeardInOrder calls.a calls.b A steps pairs.at_a
    → AreHeardInOrder calls.b calls.a B steps pairs.at_b → (end : End)
    → ToldInOneAt calls end steps (state_of end (all_stepped steps start)).links.places
