-- What the bits with an end are read from.
use Rattle.std.specs.Prelude.{◌≡◌, ℕ, ◌+◌, ◌<◌, ◌≤◌, true, ℤ, List, length}
use Rattle.sensitive_blocks.specs.declared.hearing.Moment.{Moment}
use Rattle.sensitive_blocks.specs.Bits.{reads, window_to}
use Rattle.sensitive_blocks.specs.Held.{AreKept, FollowerHasTaken, HeldFollower}

-- It is that of an end of these samples. Where an added lane reads, its tone lies so many places before the last one that is
-- decided as it says.
pub record IsAt (moment : Moment) (follower : HeldFollower) (end : ℕ) (x : List ℤ) : Type 0 where
  pub within : end ≤ length x
  pub readings : AreKept moment.readings end x
  pub window : moment.window ≡ window_to x end
  pub taken : FollowerHasTaken follower x
  pub back : (lane : ℕ) → 8 ≤ lane → lane < 26 → reads x lane end ≡ true
      → (moment.back + end + 31 ≡ follower.position) × (39 ≤ follower.position)
