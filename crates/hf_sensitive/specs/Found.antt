-- What the added lanes find at some places.
use Rattle.std.specs.Prelude.{◌≡◌, ◌≢◌, ℕ, ◌-◌, ◌/◌, ◌^◌, ◌<◌, ◌≤◌, ℤ, List, ◌++◌}
use Rattle.std.specs.List.{All, AllPairs, Contains}
use Rattle.frame_merge.specs.declared.candidate.Candidate.{Candidate}
use Rattle.frame_merge.specs.Order.{standing}
use Rattle.hf_sensitive.specs.AddedCandidates.{EndsAtPlace}

-- what may be put into a merger of 59 lanes, with its end counted from wherever the samples begin
pub record CanBePut (item : Candidate) : Type 0 where
  pub lane : item.offset < 59
  pub end : item.end < 2 ^ 49

-- what the added lanes hear after so many samples ends at this four of samples at the earliest
abbrev pub least_end : ℕ → ℕ
least_end count = count / 4 - 16

-- the candidate may be put into a merger, and does not end below a number
pub record CanBePutFrom (low : ℕ) (item : Candidate) : Type 0 where
  pub can : CanBePut item
  pub from : low ≤ item.end

-- places from one to below another, and lanes from one to below another
pub record IsAmong (from to low high place lane : ℕ) : Type 0 where
  pub from_place : from ≤ place
  pub to_place : place < to
  pub from_lane : low ≤ lane
  pub to_lane : lane < high

-- the items are all that the added lanes among some hear at the places among some, each once, in any order
pub record AreAddedAmong (from to low high : ℕ) (x : List ℤ) (items : List Candidate) : Type 0 where
  pub each : All (λ item. (place : ℕ) × IsAmong from to low high place item.offset × EndsAtPlace x item place) items
  pub whole : (item : Candidate) (place : ℕ) → IsAmong from to low high place item.offset → EndsAtPlace x item place
      → Contains items item
  pub apart : AllPairs (λ item later. standing item ≢ standing later) items

-- what was found is followed by these items
pub record AddsAmong (from to low high : ℕ) (x : List ℤ) (before after : List Candidate) : Type 0 where
  pub heard : List Candidate
  pub found : after ≡ before ++ heard
  pub are : AreAddedAmong from to low high x heard
