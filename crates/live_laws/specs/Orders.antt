-- The orders in which the steps of two runs can stand.
use Rattle.std.specs.Prelude.{◌≡◌, List, [], ◌∷◌, map}
use Rattle.link_world.specs.declared.end.End.{End}
use Rattle.link_world.specs.declared.end.End.TheVariants.{A, B}
use Rattle.sample_ring.specs.declared.got.Got.{Got}
use Rattle.station_laws.specs.JointRun.{Step}
use Rattle.tnc_ports.specs.declared.looping.LoopEnd.{LoopEnd}
use Rattle.tnc_ports.specs.declared.serve_words.ServeWords.{ServeWords}
use Rattle.tnc_ports.specs.SampledRun.{IsLooped, Outside}
use Rattle.live_laws.specs.LiveRuns.{AreInOneOrder, LiveRun, run_of}
use Rattle.live_laws.specs.LiveSteps.{OwnStep}

-- the stations whose turn it is, one for each step of either
abbrev pub IsOrderOf : List End → (a b : List OwnStep) → Type 0
IsOrderOf [] a b = (a ≡ []) × (b ≡ [])
IsOrderOf (A ∷ order) [] b = ⊥
IsOrderOf (A ∷ order) (step ∷ a) b = IsOrderOf order a b
IsOrderOf (B ∷ order) a [] = ⊥
IsOrderOf (B ∷ order) a (step ∷ b) = IsOrderOf order a b

-- the steps of two runs in that order
pub record StandsIn (order : List End) (a b : LiveRun) : Type 0 where
  pub steps : List Step
  pub stations : map (λ (step : Step). step.station) steps ≡ order
  pub in_order : AreInOneOrder a b steps

-- The steps of any two runs can stand in every order that keeps each one's own.
abbrev pub EachOrderStands : Type 0
EachOrderStands =
    (words_a words_b : ServeWords) (loop_a loop_b : LoopEnd) (answers_a answers_b : List (List Got))
    (before_a after_a before_b after_b : Outside) (looped_a : IsLooped words_a loop_a answers_a before_a after_a)
    (looped_b : IsLooped words_b loop_b answers_b before_b after_b) (order : List End)
    → let a = run_of words_a loop_a answers_a before_a after_a looped_a in
    let b = run_of words_b loop_b answers_b before_b after_b looped_b in
    IsOrderOf order a.steps b.steps → StandsIn order a b
