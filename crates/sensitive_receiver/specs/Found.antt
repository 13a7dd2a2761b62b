-- What the added lanes find at some places.
use Rattle.std.specs.Prelude.{◌≡◌, ◌≢◌, ℕ, ◌-◌, ◌^◌, ◌<◌, ◌≤◌, ℤ, List, ◌++◌}
use Rattle.std.specs.List.{All, AllPairs, Contains}
use Rattle.frame_merge.specs.declared.candidate.Candidate.{Candidate}
use Rattle.frame_merge.specs.Order.{standing}
use Rattle.tone_tracking.specs.declared.reach.Reach.{Reach}
use Rattle.sensitive_receiver.specs.AddedCandidates.{EndsAtPlace}
use Rattle.sensitive_receiver.specs.ListLanes.{IsSlowOn, lane_of}

-- what may be put into a merger of 26 lanes
pub record CanBePut (item : Candidate) : Type 0 where
  pub lane : item.offset < 26
  pub end : item.end < 2 ^ 64 - 1

-- the candidate is of one of 26 lanes, and its end has room to be moved to where its samples begin in a ring
pub record HasRoom (item : Candidate) : Type 0 where
  pub lane : item.offset < 26
  pub end : item.end < 2 ^ 49

-- the candidate is of an added lane, and does not end below a position
pub record IsAddedFrom (low : ℕ) (item : Candidate) : Type 0 where
  pub lane : 8 ≤ item.offset
  pub end : low ≤ item.end

-- it may be put into a merger of 26 lanes besides
pub record CanBePutFrom (low : ℕ) (item : Candidate) : Type 0 where
  pub can : CanBePut item
  pub from : IsAddedFrom low item

-- it has room to be moved besides
pub record HasRoomFrom (low : ℕ) (item : Candidate) : Type 0 where
  pub room : HasRoom item
  pub from : IsAddedFrom low item

-- the items are all that the added lanes hear at a place and in a lane of some kind, each once, in any order
pub record AreAddedWhere (Of : ℕ → ℕ → Type 0) (x : List ℤ) (items : List Candidate) : Type 0 where
  pub each : All (λ item. (place : ℕ) × Of place item.offset × EndsAtPlace x item place) items
  pub whole : (item : Candidate) (place : ℕ) → Of place item.offset → EndsAtPlace x item place → Contains items item
  pub apart : AllPairs (λ item later. standing item ≢ standing later) items

-- what was found is followed by these items
pub record AddsWhere (Of : ℕ → ℕ → Type 0) (x : List ℤ) (before after : List Candidate) : Type 0 where
  pub heard : List Candidate
  pub found : after ≡ before ++ heard
  pub are : AreAddedWhere Of x heard

-- at one place by one lane
abbrev pub AddsAt : ℕ → ℕ → List ℤ → List Candidate → List Candidate → Type 0
AddsAt place lane x before after = AddsWhere (λ p l. (p ≡ place) × (l ≡ lane)) x before after

-- at one place by the lanes on the slow clock of a list, from one to below another in their order
abbrev pub AddsAmong : Reach → ℕ → ℕ → ℕ → List ℤ → List Candidate → List Candidate → Type 0
AddsAmong reach place from to x before after =
    AddsWhere (λ p l. (p ≡ place) × ((k : ℕ) × (from ≤ k) × (k < to) × (l ≡ lane_of reach k))) x before after

-- at the places from one to below another by the lanes on the slow clock of a list
abbrev pub AddsIn : Reach → ℕ → ℕ → List ℤ → List Candidate → List Candidate → Type 0
AddsIn reach from to x before after =
    AddsWhere (λ p l. ((from ≤ p) × (p < to)) × IsSlowOn reach l) x before after

-- all items of these places and lanes
abbrev pub AreAddedIn : Reach → ℕ → ℕ → List ℤ → List Candidate → Type 0
AreAddedIn reach from to x items = AreAddedWhere (λ p l. ((from ≤ p) × (p < to)) × IsSlowOn reach l) x items

-- all items of the places from one to below another
abbrev pub AreAddedBetween : ℕ → ℕ → List ℤ → List Candidate → Type 0
AreAddedBetween from to x items = AreAddedWhere (λ p l. (from ≤ p) × (p < to)) x items
