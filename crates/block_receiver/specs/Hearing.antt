-- What lanes hear of samples, and how soon it is settled: a candidate to come can change it no more.
use Rattle.std.specs.Prelude.{◌≡◌, ℕ, ◌+◌, ◌-◌, ◌<◌, ◌≤◌, ◌^◌, ℤ, List, [], ◌++◌, length, slice_index}
use Rattle.std.specs.List.{All}
use Rattle.frame_merge.specs.declared.candidate.Candidate.{Candidate}
use Rattle.frame_merge.specs.Merged.{merged, below}
use Rattle.frame_merge.specs.Order.{in_order, IsInOrder}

pub record Hearing (Lanes : Type 0) : Type 1 where
  -- how many lanes there are
  pub lanes : ℕ
  -- the lanes have counted so many samples
  pub IsAt : Lanes → ℕ → Type 0
  -- the lanes have taken these samples
  pub HaveTaken : Lanes → List ℤ → Type 0
  -- the candidates are all that the lanes hear of the samples
  pub Heard : List ℤ → List Candidate → Type 0
  -- the position below which what is heard of so many samples stays, whatever follows
  pub settled : ℕ → ℕ
  -- the position below which all ends that is heard of so many samples
  pub past : ℕ → ℕ

-- what is heard is in order and has its place, more samples settle more, and what is settled stays
pub record IsHearing {Lanes : Type 0} (hearing : Hearing Lanes) : Type 0 where
  pub some : 1 ≤ hearing.lanes
  pub few : hearing.lanes ≤ 64
  pub none : hearing.Heard [] []
  pub order : (x : List ℤ) (items : List Candidate) → hearing.Heard x items → IsInOrder items
  pub ends : (x : List ℤ) (items : List Candidate) → hearing.Heard x items
      → All (λ item. item.end < hearing.past (length x)) items
  pub begins : hearing.settled 0 ≡ 0
  pub rises : (count more : ℕ) → hearing.settled count ≤ hearing.settled (count + more)
  pub within : (count : ℕ) → hearing.settled count ≤ hearing.past count
  pub near : (count : ℕ) → hearing.past count ≤ count + 1
  pub stays : (x y : List ℤ) (items all : List Candidate) (position : ℕ) → hearing.Heard x items
      → hearing.Heard (x ++ y) all → position ≤ hearing.settled (length x)
      → below position (merged all) ≡ below position (merged items)

-- put among what is heard of samples, these candidates make what is heard of more
abbrev pub Adds : (List ℤ → List Candidate → Type 0) → List ℤ → List ℤ → List Candidate → Type 0
Adds Heard x more found = (puts : List Candidate) → Heard x (in_order puts) → Heard more (in_order (puts ++ found))

-- whatever samples the lanes had taken, they have taken the block after them, and these are the candidates that it adds
abbrev pub HearsBlock : {Lanes : Type 0} → Hearing Lanes → Lanes → Lanes → List ℤ → List Candidate → Type 0
HearsBlock hearing old new block found = (x : List ℤ) → hearing.HaveTaken old x
    → hearing.HaveTaken new (x ++ block) × Adds hearing.Heard x (x ++ block) found

-- what may be put into a merger of so many lanes
pub record CanBePut (lanes : ℕ) (item : Candidate) : Type 0 where
  pub lane : item.offset < lanes
  pub end : item.end < 2 ^ 64 - 1

-- and does not end below a position
pub record CanBePutFrom (lanes low : ℕ) (item : Candidate) : Type 0 where
  pub can : CanBePut lanes item
  pub from : low ≤ item.end

-- no candidate ends below the mark of its lane
abbrev pub AreInTime : List ℕ → List Candidate → Type 0
AreInTime marks items = All (λ item. slice_index marks item.offset ≤ item.end) items
