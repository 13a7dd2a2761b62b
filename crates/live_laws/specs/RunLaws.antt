-- What holds of every live run as `serve` describes it, however it ended: its steps follow each other, and a connection
-- takes a first part of what they say to it.
use Rattle.std.specs.Prelude.{ℕ, List}
use Rattle.sample_ring.specs.declared.got.Got.{Got}
use Rattle.station.specs.State.{new_station}
use Rattle.station_laws.specs.JointRun.{Step, IsJointRun, new_stations}
use Rattle.tnc_ports.specs.declared.looping.LoopEnd.{LoopEnd}
use Rattle.tnc_ports.specs.declared.serve_words.ServeWords.{ServeWords}
use Rattle.tnc_ports.specs.SampledRun.{IsLooped, Outside}
use Rattle.live_laws.specs.LiveRuns.{AreInOneOrder, octets_taken, run_of}
use Rattle.live_laws.specs.Taken.{IsChain, IsTakenIn}

-- Each step of a run begins in the state that the one before it left, the first in a new station.
abbrev pub StepsFollow : Type 0
StepsFollow =
    (words : ServeWords) (loop : LoopEnd) (answers : List (List Got)) (before after : Outside)
    (looped : IsLooped words loop answers before after)
    → IsChain (new_station words.config words.seed) (run_of words loop answers before after looped).steps

-- So the steps of two runs, in any order that keeps each one's own, are a joint run of two new stations.
abbrev pub TwoRunsAreJoint : Type 0
TwoRunsAreJoint =
    (words_a words_b : ServeWords) (loop_a loop_b : LoopEnd) (answers_a answers_b : List (List Got))
    (before_a after_a before_b after_b : Outside) (looped_a : IsLooped words_a loop_a answers_a before_a after_a)
    (looped_b : IsLooped words_b loop_b answers_b before_b after_b) (steps : List Step)
    → AreInOneOrder (run_of words_a loop_a answers_a before_a after_a looped_a)
    (run_of words_b loop_b answers_b before_b after_b looped_b) steps
    → IsJointRun (new_stations words_a.config words_a.seed words_b.config words_b.seed) steps

-- What a connection took is a first part of what the station said to it in steps of the run, from when it joined: up to
-- the step in which it leaves, or is shut.
abbrev pub TakesWhatIsSaid : Type 0
TakesWhatIsSaid =
    (words : ServeWords) (loop : LoopEnd) (answers : List (List Got)) (before after : Outside)
    (looped : IsLooped words loop answers before after) (id : ℕ)
    → let run = run_of words loop answers before after looped in
    IsTakenIn id run.steps (octets_taken id run)
