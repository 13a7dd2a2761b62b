-- What has been taken of what is heard of samples, up to where an item can stand. No public clause cites it.
use Rattle.std.specs.Prelude.{◌≡◌, ℕ, ◌+◌, ◌*◌, ◌<◌, ℤ, List}
use Rattle.std.specs.List.{All, AllPairs, Contains}
use Rattle.fx25_receiver.specs.declared.heard.Heard.{Heard}
use Rattle.fx25_receiver.specs.Heard.{standing}
use Rattle.fx25_receiver.specs.Held.{Keeps}
use Rattle.fx25_receiver.specs.Merged.{merged}
use Rattle.sensitive_blocks.specs.Heard.{IsHeard}

-- the items are all that is heard of the samples and stands below a number, each once, in order
pub record AreHeardBelow (number : ℕ) (x : List ℤ) (items : List Heard) : Type 0 where
  pub each : All (λ item. IsHeard x item × (standing item < number)) items
  pub whole : (item : Heard) → IsHeard x item → standing item < number → Contains items item
  pub order : AllPairs (λ item later. standing item < standing later) items

-- All below an end was taken, and with it what stands below a rank, which is 256 times the lane and the tag. What remains of it
-- was given.
pub record HasTakenBelow (end rank : ℕ) (kept : List Heard) (x : List ℤ) (given : List Heard) : Type 0 where
  pub heard : List Heard
  pub are : AreHeardBelow (65536 * end + rank) x heard
  pub keeps : Keeps kept end heard
  pub given_is : given ≡ merged heard
