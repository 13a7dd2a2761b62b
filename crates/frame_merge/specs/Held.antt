-- What a merger keeps, and what that stands for.
use Rattle.std.specs.Prelude.{◌≡◌, ℕ, ◌-◌, ◌^◌, ◌<◌, List, min, fold}
use Rattle.std.specs.List.{All}
use Rattle.frame_merge.specs.declared.candidate.Candidate.{Candidate}
use Rattle.frame_merge.specs.Order.{in_order, IsInOrder}
use Rattle.frame_merge.specs.Merged.{merged, below, not_below}

-- the marks of the lanes, the position below which all has been given, and the candidates that are kept, in order
pub record Held : Type 0 where
  pub marks : List ℕ
  pub given_below : ℕ
  pub items : List Candidate

-- the least of the marks
abbrev pub least : List ℕ → ℕ
least marks = fold min (2 ^ 64 - 1) marks

-- The merger took `puts`, in that order, and has given `given`. It keeps those that a candidate to come can repeat: all
-- but those that end more than 15 samples before the position below which all has been given.
pub record StandsFor (held : Held) (puts given : List Candidate) : Type 0 where
  pub items : held.items ≡ not_below (held.given_below - 15) (in_order puts)
  pub order : IsInOrder (in_order puts)
  pub ends : All (λ item. item.end < 2 ^ 64 - 1) puts
  pub so_far : given ≡ below held.given_below (merged (in_order puts))
