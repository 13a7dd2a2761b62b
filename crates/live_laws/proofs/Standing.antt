-- The steps of two runs stand in each order that keeps each one's own.
use Rattle.tnc_ports.proofs.Common.{◌≡◌, List, [], ◌∷◌, map, refl, sym, ap}
use Rattle.std.specs.List.{AllByRecursion as Each}
use Rattle.link_world.specs.declared.end.End.{End}
use Rattle.link_world.specs.declared.end.End.TheVariants.{A, B}
use Rattle.station_laws.specs.JointRun.{Step}
use Rattle.live_laws.specs.LiveRuns.{steps_at}
use Rattle.live_laws.specs.LiveSteps.{OwnStep}
use Rattle.live_laws.specs.Orders.{EachOrderStands, IsOrderOf}
use Rattle.live_laws.proofs.RunFacts.{run_octets}
use Rattle.live_laws.proofs.Walks.{HasOctetsIn}

-- a step of one of the stations
abbrev placed : End → (step : OwnStep) → HasOctetsIn step → Step
placed end step octets = record {
  station = end;
  input = step.input;
  before = step.before;
  after = step.after;
  turn = step.turn;
  octets = octets;
}

record Stand (order : List End) (a b : List OwnStep) : Type 0 where
  steps : List Step
  stations : map (λ (step : Step). step.station) steps ≡ order
  of_a : steps_at A steps ≡ a
  of_b : steps_at B steps ≡ b

stand : (order : List End) (a b : List OwnStep) → IsOrderOf order a b → Each HasOctetsIn a → Each HasOctetsIn b
    → Stand order a b
stand [] a b none octets_a octets_b = record { steps = []; stations = refl; of_a = sym none.0; of_b = sym none.1 }
stand (A ∷ order) [] b is octets_a octets_b = absurd is
stand (A ∷ order) (step ∷ a) b is octets_a octets_b =
    let rest = stand order a b is octets_a.1 octets_b in
    record {
      steps = placed A step octets_a.0 ∷ rest.steps;
      stations = ap (λ xs. A ∷ xs) rest.stations;
      of_a = ap (λ xs. step ∷ xs) rest.of_a;
      of_b = rest.of_b;
    }
stand (B ∷ order) a [] is octets_a octets_b = absurd is
stand (B ∷ order) a (step ∷ b) is octets_a octets_b =
    let rest = stand order a b is octets_a octets_b.1 in
    record {
      steps = placed B step octets_b.0 ∷ rest.steps;
      stations = ap (λ xs. B ∷ xs) rest.stations;
      of_a = rest.of_a;
      of_b = ap (λ xs. step ∷ xs) rest.of_b;
    }

pub each_order_stands_holds : EachOrderStands
each_order_stands_holds words_a words_b loop_a loop_b answers_a answers_b before_a after_a before_b after_b looped_a
    looped_b order is =
    let h = stand order _ _ is (run_octets words_a loop_a answers_a before_a after_a looped_a)
    (run_octets words_b loop_b answers_b before_b after_b looped_b) in
    record { steps = h.steps; stations = h.stations; in_order = record { of_a = h.of_a; of_b = h.of_b } }
