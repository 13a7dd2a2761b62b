-- What a receiver keeps, and what that stands for.
use Rattle.std.specs.Prelude.{◌≡◌, ℕ, ◌-◌, ℤ, List, length, Bool, false}
use Rattle.frame_merge.specs.declared.candidate.Candidate.{Candidate}
use Rattle.frame_merge.specs.Held.{Held as HeldMerger, StandsFor as MergerStandsFor}
use Rattle.frame_merge.specs.Merged.{merged, below, not_below}
use Rattle.frame_merge.specs.Order.{in_order}
use Rattle.block_receiver.specs.declared.progress.Progress.{Progress}
use Rattle.block_receiver.specs.Hearing.{Hearing}

pub record Held (Lanes : Type 0) : Type 0 where
  pub lanes : Lanes
  pub merger : HeldMerger
  pub position : ℕ
  pub finished : Bool
  pub spent : Bool

-- how far it has come
abbrev pub progress : {Lanes : Type 0} → Held Lanes → Progress
progress held = record { position = held.position; finished = held.finished; spent = held.spent }

-- The merger was given all that is heard of the samples, in whatever order. It has given what is settled, and keeps
-- what a candidate to come can repeat.
pub record HasMerged {Lanes : Type 0} (hearing : Hearing Lanes) (merger : HeldMerger) (x : List ℤ) : Type 0 where
  pub puts : List Candidate
  pub are : hearing.Heard x (in_order puts)
  pub so_far : MergerStandsFor merger puts (below (hearing.settled (length x)) (merged (in_order puts)))
  pub kept : merger.items ≡ not_below (hearing.settled (length x) - 15) (in_order puts)

-- the receiver has taken these samples, it is not finished, and every growth that it wanted was given
pub record StandsFor {Lanes : Type 0} (hearing : Hearing Lanes) (held : Held Lanes) (x : List ℤ) : Type 0 where
  pub spent : held.spent ≡ false
  pub finished : held.finished ≡ false
  pub count : held.position ≡ length x
  pub lanes : hearing.HaveTaken held.lanes x
  pub merged : HasMerged hearing held.merger x
