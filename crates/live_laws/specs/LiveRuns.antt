-- A live run, whole or cut short, as `serve` describes it: its steps, and what each connection took; and one order of the
-- steps of two of them.
use Rattle.std.specs.Prelude.{◌≡◌, ℕ, List, [], ◌∷◌, ◌++◌}
use Rattle.sample_ring.specs.declared.got.Got.{Got}
use Rattle.link_world.specs.declared.end.End.{End}
use Rattle.link_world.specs.declared.end.End.TheVariants.{A, B}
use Rattle.station_laws.specs.JointRun.{Step, at_end}
use Rattle.tnc_ports.specs.declared.looping.LoopEnd.{LoopEnd}
use Rattle.tnc_ports.specs.declared.looping.LoopEnd.TheVariants.{Done, Memory, WriteFault}
use Rattle.tnc_ports.specs.declared.serve_words.ServeWords.{ServeWords}
use Rattle.host_ports.specs.HostTurns.{Asked}
use Rattle.tnc_ports.specs.SampledRun.{IsLooped, Outside}
use Rattle.tnc_ports.specs.ServedHosts.{octets_to}
use Rattle.live_laws.specs.LiveSteps.{OwnStep, steps_of_run, steps_of_cut_run}

-- what is seen of a live run: the steps of its station, and what the ports were asked turn by turn
pub record LiveRun : Type 0 where
  pub steps : List OwnStep
  pub turns : List Asked

-- the run that serving describes, by how its loop ended
abbrev pub run_of : (words : ServeWords) → (loop : LoopEnd) → (answers : List (List Got)) → (before after : Outside)
    → IsLooped words loop answers before after → LiveRun
run_of words Done answers before after h = record { steps = steps_of_run words h.0 h.1.run; turns = h.0.asked }
run_of words WriteFault answers before after h = record { steps = steps_of_run words h.0 h.1.run; turns = h.0.asked }
run_of words Memory answers before after h = record {
  steps = steps_of_cut_run words h.0 h.1.turns h.1.reached h.1.run h.1.asked;
  turns = h.1.turns;
}

-- the octets that a connection took in it
abbrev pub octets_taken : ℕ → LiveRun → List ℕ
octets_taken id run = octets_to id run.turns

-- ---- two runs in one order

abbrev pub own_step : Step → OwnStep
own_step step = record { input = step.input; before = step.before; after = step.after; turn = step.turn }

-- the steps of one station
abbrev pub steps_at : End → List Step → List OwnStep
steps_at end [] = []
steps_at end (step ∷ steps) = at_end end step.station (own_step step ∷ []) ++ steps_at end steps

-- one order of the steps of two runs, that keeps each one's own
pub record AreInOneOrder (a b : LiveRun) (steps : List Step) : Type 0 where
  pub of_a : steps_at A steps ≡ a.steps
  pub of_b : steps_at B steps ≡ b.steps
