-- What a receiver keeps that reads a ring, and what it stands for.
use Rattle.std.specs.Prelude.{◌≡◌, ℕ, ◌+◌, ◌<◌, ◌^◌, Bool, false, ℤ, List, map, Option, None, Some, IfSome, is_some}
use Rattle.sample_ring.specs.declared.got.Got.{Got}
use Rattle.sample_ring.specs.declared.reader.Reader.{Reader}
use Rattle.sample_ring.specs.Ends.{position_of}
use Rattle.frame_merge.specs.declared.candidate.Candidate.{Candidate}
use Rattle.slicer_bank.specs.Held.{StandsFor as BankStandsFor}
use Rattle.slicer_bank.specs.RingLanes.{answers_of}
use Rattle.slicer_bank.specs.RingTurns.{Leads}
use Rattle.slicer_bank.specs.Stretches.{Stretch, last_stretch}
use Rattle.fx25_receiver.specs.Held.{Held as HeldEight, StandsFor as EightStandFor}
use Rattle.fx25_receiver.specs.declared.heard.Heard.{Heard}
use Rattle.sensitive_blocks.specs.Held.{HeldReceiver as HeldAll, StandsFor as AllStandFor}
use Rattle.stretch_reader.specs.Turns.{HaveHeard}
use Rattle.fx25_ring.specs.declared.lanes.Lanes.{Lanes}
use Rattle.fx25_ring.specs.HeardInBlocks.{placed, AreHeardInOne}

-- the lanes and their reader, and whether memory was wanted or the ring has ended
pub record HeldReceiver : Type 0 where
  pub reader : Reader
  pub lanes : Lanes
  pub spent : Bool

-- a receiver of these parts
abbrev pub receiver_of : Reader → Lanes → Bool → HeldReceiver
receiver_of reader lanes spent = record { reader = reader; lanes = lanes; spent = spent }

-- all that the reader of a receiver was answered
abbrev pub block_answers : ℕ → HeldReceiver → List Got
block_answers len receiver = answers_of len receiver.reader

-- whether all lanes listen
abbrev pub are_sensitive : Lanes → Bool
are_sensitive lanes = is_some lanes.all

abbrev pub sensitive_of_blocks : HeldReceiver → Bool
sensitive_of_blocks receiver = are_sensitive receiver.lanes

-- for how many flags in a row it listens
abbrev pub flags_of_blocks : HeldReceiver → ℕ
flags_of_blocks receiver = receiver.lanes.flags

-- what tells the items has heard samples, and gave these of them
abbrev pub Tells : HeldEight → Option HeldAll → List ℤ → List Heard → Type 0
Tells eight None x own = EightStandFor eight x own
Tells eight (Some all) x own = AllStandFor all x own

-- the lanes have heard a stretch, and gave these items of it
pub record StandForStretch (lanes : Lanes) (stretch : Stretch) (items : List Candidate) : Type 0 where
  pub begin : lanes.begin ≡ stretch.begin
  pub own : List Heard
  pub tells : Tells lanes.receiver lanes.all stretch.samples own
  pub items_are : items ≡ map (placed stretch.begin) own

-- what listens for flags and for blocks that come in has heard a stretch
pub record ListenTo (lanes : Lanes) (stretch : Stretch) : Type 0 where
  pub flags : BankStandsFor lanes.bank stretch.samples
  pub own : List Heard
  pub blocks : EightStandFor lanes.receiver stretch.samples own

-- the position of the next sample
abbrev pub place_of : Lanes → ℕ
place_of lanes = lanes.begin + lanes.receiver.position

-- all lanes have come as far
pub record AreTogether (lanes : Lanes) : Type 0 where
  pub bank : lanes.bank.position ≡ lanes.receiver.position
  pub all : IfSome lanes.all (λ all. all.follower.position ≡ lanes.receiver.position)

-- so they have, and the reader, too
pub record AreInStep (reader : Reader) (lanes : Lanes) : Type 0 where
  pub at : place_of lanes ≡ position_of reader
  pub room : position_of reader < 2 ^ 48
  pub together : AreTogether lanes

-- The lanes by which other stations are heard have heard all that their reader was answered, which leads to its position.
-- This is so after the end of the ring, too.
pub record ListenToReader (len : ℕ) (reader : Reader) (lanes : Lanes) : Type 0 where
  pub lead : Leads 0 (answers_of len reader) (position_of reader)
  pub listen : ListenTo lanes (last_stretch (answers_of len reader))

abbrev pub BlockLanesListen : ℕ → HeldReceiver → Type 0
BlockLanesListen len receiver = ListenToReader len receiver.reader receiver.lanes

-- the lanes have heard all that their reader was answered, and gave these items of it
abbrev pub HaveHeardAll : ℕ → HeldReceiver → List Candidate → Type 0
HaveHeardAll len receiver given =
    HaveHeard (AreHeardInOne (sensitive_of_blocks receiver)) (StandForStretch receiver.lanes) (block_answers len receiver)
    given

-- so they have, the ring has not ended, and all memory that was wanted was given
pub record BlocksHeard (len : ℕ) (receiver : HeldReceiver) : Type 0 where
  pub spent : receiver.spent ≡ false
  pub listens : BlockLanesListen len receiver
  pub given : List Candidate
  pub heard : HaveHeardAll len receiver given
