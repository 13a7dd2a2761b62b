-- The transmit queue.
use Rattle.std.specs.Prelude.{◌≡◌, ℕ, Option, Some, List}
use Rattle.std.specs.List.{Any}

-- a frame that waits, without its check sequence, and the key of the link that it belongs to, if it belongs to one
pub record WaitingFrame : Type 0 where
  pub link : Option ℕ
  pub octets : List ℕ

-- some frame of the link waits
abbrev pub IsWaiting : ℕ → List WaitingFrame → Type 0
IsWaiting link waiting = Any (λ frame. frame.link ≡ Some link) waiting
