-- What has been taken of what ends with the last of some samples. No public clause cites it.
use Rattle.std.specs.Prelude.{◌≡◌, ℕ, ◌<◌, ◌⊎◌, ℤ, List, length}
use Rattle.std.specs.List.{All, AllPairs, Contains}
use Rattle.offset_slicers.specs.Windows.{EndsWindow, bits}
use Rattle.fx25_receiver.specs.declared.heard.Heard.{Heard}
use Rattle.fx25_receiver.specs.declared.hearing.Place.{Place}
use Rattle.fx25_receiver.specs.Certainty.{certainties}
use Rattle.fx25_receiver.specs.Heard.{EndsWithBits, IsHeard, standing}
use Rattle.fx25_receiver.specs.Held.{Keeps}
use Rattle.fx25_receiver.specs.Merged.{merged}

-- the last of the samples is the last of a window of the place's offset
pub record IsAt (place : Place) (x : List ℤ) : Type 0 where
  pub offset : place.offset < 8
  pub window : EndsWindow place.offset x
  pub end_is : place.end ≡ length x

-- an item ends with the last bit of an offset
abbrev pub EndsLast : ℕ → List ℤ → Heard → Type 0
EndsLast offset x item = EndsWithBits (bits offset x) (certainties offset x) item

-- an item ends before the last of the samples, or has a lower tag
abbrev pub IsBelow : ℕ → List ℤ → Heard → Type 0
IsBelow tag x item = (item.end < length x) ⊎ (item.tag < tag)

-- the items are all such that are heard of the samples, each once, in order
pub record AreHeardBelow (tag : ℕ) (x : List ℤ) (items : List Heard) : Type 0 where
  pub each : All (λ item. IsHeard x item × IsBelow tag x item) items
  pub whole : (item : Heard) → IsHeard x item → IsBelow tag x item → Contains items item
  pub order : AllPairs (λ item later. standing item < standing later) items

-- these were taken, and what remains of them was given
pub record HasTakenBelow (tag : ℕ) (kept : List Heard) (x : List ℤ) (given : List Heard) : Type 0 where
  pub heard : List Heard
  pub are : AreHeardBelow tag x heard
  pub keeps : Keeps kept (length x) heard
  pub given_is : given ≡ merged heard
