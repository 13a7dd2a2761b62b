-- What a receiver of short wave keeps that reads a ring, and what it stands for.
use Rattle.std.specs.Prelude.{◌≡◌, ℕ, ◌+◌, ◌-◌, ◌/◌, ◌<◌, ◌≤◌, ◌^◌, Bool, true, false, List, replicate}
use Rattle.sample_ring.specs.declared.got.Got.{Got}
use Rattle.sample_ring.specs.declared.reader.Reader.{Reader}
use Rattle.sample_ring.specs.Ends.{position_of}
use Rattle.frame_merge.specs.declared.candidate.Candidate.{Candidate}
use Rattle.frame_merge.specs.Held.{Held as HeldMerger, StandsFor as MergerStandsFor}
use Rattle.frame_merge.specs.Merged.{merged, below}
use Rattle.frame_merge.specs.Order.{in_order}
use Rattle.slicer_bank.specs.RingLanes.{answers_of}
use Rattle.slicer_bank.specs.RingTurns.{Leads}
use Rattle.slicer_bank.specs.Stretches.{Stretch, last_stretch}
use Rattle.stretch_reader.specs.EachHeard.{AreAllIn}
use Rattle.stretch_reader.specs.Turns.{HaveHeard}
use Rattle.hf_modem.specs.Held.{BankStandsFor}
use Rattle.hf_sensitive.specs.HeldBanks.{AllStandFor, AreAt}
use Rattle.live_receiver.specs.declared.hf_lanes.HfLanes.{HfLanes}
use Rattle.live_receiver.specs.HeardOnShortWave.{AreHeard, IsHeardInOne, following, lanes_in, settled_end}

-- the lanes and their reader, and the merger of what they hear; and whether memory was wanted or the ring has ended
pub record HeldHf : Type 0 where
  pub reader : Reader
  pub lanes : HfLanes
  pub merger : HeldMerger
  pub spent : Bool

-- a receiver of these parts
abbrev pub hf_of : Reader → HfLanes → HeldMerger → Bool → HeldHf
hf_of reader lanes merger spent = record { reader = reader; lanes = lanes; merger = merger; spent = spent }

-- all that the reader of a receiver was answered
abbrev pub hf_answers : ℕ → HeldHf → List Got
hf_answers len receiver = answers_of len receiver.reader

-- for how many flags in a row it listens
abbrev pub flags_of_hf : HeldHf → ℕ
flags_of_hf receiver = receiver.lanes.bank.flags

-- whether its added lanes listen
abbrev pub sensitive_of_hf : HeldHf → Bool
sensitive_of_hf receiver = receiver.lanes.sensitive

-- the lanes have heard a stretch
pub record StandsForStretch (lanes : HfLanes) (stretch : Stretch) : Type 0 where
  pub begin : lanes.begin ≡ stretch.begin
  pub samples : BankStandsFor lanes.bank stretch.samples
  pub added : lanes.sensitive ≡ true → AllStandFor lanes.banks.items stretch.samples

-- and gave these items of it, which are all that they hear in it
pub record HoldStretch (lanes : HfLanes) (stretch : Stretch) (items : List Candidate) : Type 0 where
  pub stands : StandsForStretch lanes stretch
  pub are : AreAllIn (IsHeardInOne lanes.sensitive) stretch items

-- what lanes can give that have come to a position: its lane is one of them, and it does not end below what is settled
pub record CanCome (sensitive : Bool) (from : ℕ) (item : Candidate) : Type 0 where
  pub lane : item.offset < lanes_in sensitive
  pub end : item.end < 2 ^ 64 - 1
  pub late : from / 4 - following sensitive ≤ item.end

-- the position of the next sample
abbrev pub place_of : HfLanes → ℕ
place_of lanes = lanes.begin + lanes.bank.position

-- the banks of the added lanes, if these listen, have counted the samples that the others have
abbrev pub BanksFollow : HfLanes → Type 0
BanksFollow lanes = lanes.sensitive ≡ true → AreAt lanes.bank.position lanes.banks.items

-- the lanes have heard as far as their reader has read, and all are marked there, or where the added lanes hear nothing more
pub record AreInStep (reader : Reader) (lanes : HfLanes) (merger : HeldMerger) : Type 0 where
  pub at : place_of lanes ≡ position_of reader
  pub room : position_of reader < 2 ^ 48
  pub banks : BanksFollow lanes
  pub marks : merger.marks
      ≡ replicate (lanes_in lanes.sensitive) (position_of reader / 4 - following lanes.sensitive)

-- the merger took all that the lanes heard, in whatever order, and has given what ends below the settled end
pub record HasMergedHf (sensitive : Bool) (merger : HeldMerger) (answers : List Got) : Type 0 where
  pub puts : List Candidate
  pub candidates : List Candidate
  pub are : AreHeard sensitive answers candidates
  pub order : in_order puts ≡ candidates
  pub so_far : MergerStandsFor merger puts (below (settled_end sensitive answers) (merged candidates))

-- The lanes have heard the last stretch of their reader's answers, which lead to its position. This is so after the end of
-- the ring, too.
pub record HfListens (len : ℕ) (reader : Reader) (lanes : HfLanes) : Type 0 where
  pub lead : Leads 0 (answers_of len reader) (position_of reader)
  pub stands : StandsForStretch lanes (last_stretch (answers_of len reader))

abbrev pub HfLanesListen : ℕ → HeldHf → Type 0
HfLanesListen len receiver = HfListens len receiver.reader receiver.lanes

-- the lanes have heard all that their reader was answered, and gave these items of it
abbrev pub HaveHeardAll : ℕ → HeldHf → List Candidate → Type 0
HaveHeardAll len receiver given =
    HaveHeard (AreAllIn (IsHeardInOne (sensitive_of_hf receiver))) (HoldStretch receiver.lanes) (hf_answers len receiver)
    given

-- So they have, and the merger has given what is settled. The ring has not ended, and all memory that was wanted was
-- given.
pub record HfHears (len : ℕ) (receiver : HeldHf) : Type 0 where
  pub spent : receiver.spent ≡ false
  pub listens : HfLanesListen len receiver
  pub given : List Candidate
  pub heard : HaveHeardAll len receiver given
  pub merged : HasMergedHf (sensitive_of_hf receiver) receiver.merger (hf_answers len receiver)
