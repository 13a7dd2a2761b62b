-- The five banks of added lanes: one for the lanes at fixed offsets, one for the lanes on the slow clock of each list, and
-- one for the lane on the fast clock.
use Rattle.std.specs.Prelude.{◌≡◌, ℕ, ◌+◌, ◌<◌, ◌^◌, ℤ, List, ◌++◌}
use Rattle.frame_merge.specs.declared.candidate.Candidate.{Candidate}
use Rattle.tone_tracking.specs.declared.place_tones.PlaceTones.{PlaceTones}
use Rattle.tone_tracking.specs.declared.reach.Reach.TheVariants.{Alone, Near, Far}
use Rattle.sensitive_receiver.specs.FastLane.{FastHasRead, FastReadsLine, HeldFast}
use Rattle.sensitive_receiver.specs.FixedLanes.{FixedHasRead, FixedReadsLine, HeldFixed}
use Rattle.sensitive_receiver.specs.Hearing.{ReadsLine}
use Rattle.sensitive_receiver.specs.HeldList.{HasRead, HeldList}

-- in the order of the numbers of their lanes
pub record HeldBanks : Type 0 where
  pub fixed : HeldFixed
  pub near : HeldList
  pub far : HeldList
  pub fast : HeldFast
  pub alone : HeldList

-- the banks are at a place
pub record AreAt (place : ℕ) (banks : HeldBanks) : Type 0 where
  pub near_list : banks.near.ring.reach ≡ Near
  pub far_list : banks.far.ring.reach ≡ Far
  pub alone_list : banks.alone.ring.reach ≡ Alone
  pub fixed_place : banks.fixed.place ≡ place
  pub near_place : banks.near.ring.place ≡ place
  pub far_place : banks.far.ring.place ≡ place
  pub fast_place : banks.fast.ring.place ≡ place
  pub alone_place : banks.alone.ring.place ≡ place

-- each of them has read all places before its own
pub record HaveRead (banks : HeldBanks) (x : List ℤ) : Type 0 where
  pub fixed_read : FixedHasRead banks.fixed x
  pub near_read : HasRead banks.near x
  pub far_read : HasRead banks.far x
  pub fast_read : FastHasRead banks.fast x
  pub alone_read : HasRead banks.alone x

-- ---- a line of tones

-- each of them has room for so many places more
pub record HaveRoom (count : ℕ) (banks : HeldBanks) : Type 0 where
  pub fixed : banks.fixed.place + count < 2 ^ 48
  pub near : banks.near.ring.place + count < 2 ^ 48
  pub far : banks.far.ring.place + count < 2 ^ 48
  pub fast : banks.fast.ring.place + count < 2 ^ 48
  pub alone : banks.alone.ring.place + count < 2 ^ 48

-- the banks have read a line, and the items are what the lanes of each hear there
pub record AllReadLine (old new : HeldBanks) (line : List PlaceTones) (items : List Candidate) : Type 0 where
  pub fixed_heard : List Candidate
  pub near_heard : List Candidate
  pub far_heard : List Candidate
  pub fast_heard : List Candidate
  pub alone_heard : List Candidate
  pub fixed_reads : FixedReadsLine old.fixed new.fixed line fixed_heard
  pub near_reads : ReadsLine old.near new.near line near_heard
  pub far_reads : ReadsLine old.far new.far line far_heard
  pub fast_reads : FastReadsLine old.fast new.fast line fast_heard
  pub alone_reads : ReadsLine old.alone new.alone line alone_heard
  pub joined : items ≡ (((fixed_heard ++ near_heard) ++ far_heard) ++ fast_heard) ++ alone_heard
