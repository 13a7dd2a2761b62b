-- What may be put into a merger of eight lanes.
pub use Rattle.block_receiver.specs.Hearing.{AreInTime}
use Rattle.std.specs.Prelude.{ℕ, ◌<◌, ◌-◌, ◌^◌, List}
use Rattle.std.specs.List.{All}
use Rattle.frame_merge.specs.declared.candidate.Candidate.{Candidate}

-- the candidate is one of eight lanes, and does not end at the greatest position
pub record CanBePut (item : Candidate) : Type 0 where
  pub lane : item.offset < 8
  pub end : item.end < 2 ^ 64 - 1

-- and it ends past a position
pub record CanBePutPast (position : ℕ) (item : Candidate) : Type 0 where
  pub can : CanBePut item
  pub past : position < item.end

-- each candidate ends past a position
abbrev pub AllPast : ℕ → List Candidate → Type 0
AllPast position items = All (λ item. position < item.end) items
