-- What a receiver keeps, and what that stands for. Public clauses cite `StandsFor` alone.
use Rattle.std.specs.Prelude.{◌≡◌, ℕ, ◌+◌, ◌/◌, ◌^◌, ◌<◌, ◌≤◌, ℤ, List, [], Bool, false, filter, length, nat_le, slice_index_or}
use Rattle.tone_table.specs.declared.tone.Tone.{Tone}
use Rattle.nrzi_bits.specs.Line.{bits_of, last_tone}
use Rattle.offset_slicers.specs.Windows.{tones_at}
use Rattle.slicer_bank.specs.Held.{last_seven}
use Rattle.hdlc_framer.specs.Held.{Held as HeldDeframer}
use Rattle.fx25_blocks.specs.declared.certainties.Certainties.{Certainties}
use Rattle.fx25_receiver.specs.declared.heard.Heard.{Heard}
use Rattle.fx25_receiver.specs.declared.resting_reader.RestingReader.{RestingReader}
use Rattle.fx25_receiver.specs.Certainty.{certainties}
use Rattle.fx25_receiver.specs.Heard.{AreHeard}
use Rattle.fx25_receiver.specs.Known.{KnowsNumbers}
use Rattle.hdlc_framer.specs.Late.{StandsFor as LateStandsFor}
use Rattle.fx25_receiver.specs.Merged.{merged, reach}
use Rattle.fx25_receiver.specs.Resting.{StandsFor as ReaderStandsFor}

-- the deframer of plain frames, and how many of the last bits wait for it
pub record HeldFrames : Type 0 where
  pub deframer : HeldDeframer
  pub waiting : ℕ

-- the tone of the last window, the deframer of plain frames and how many of the last bits wait for it, the reader of
-- blocks with the last 64 bits, and how sure the bits are that it takes while it is awake
pub record HeldLane : Type 0 where
  pub line : Tone
  pub deframer : HeldDeframer
  pub waiting : ℕ
  pub reader : RestingReader
  pub certainties : Certainties

-- the lane has taken windows of these tones
pub record LaneStandsFor (held : HeldLane) (tones : List Tone) : Type 0 where
  pub line : held.line ≡ last_tone tones
  pub plain : LateStandsFor held.deframer (held.reader.register / 2 ^ 56) held.waiting (bits_of tones)
  pub reader : ReaderStandsFor held.reader (bits_of tones)

-- a lane that has taken nothing
pub record IsFresh (held : HeldLane) : Type 0 where
  pub stands : LaneStandsFor held []
  pub knows : KnowsNumbers held.reader held.certainties []

-- a lane has taken the windows at an offset that lie in these samples, and knows how sure they are
pub record LaneHasTaken (held : HeldLane) (offset : ℕ) (x : List ℤ) : Type 0 where
  pub stands : LaneStandsFor held (tones_at offset x)
  pub knows : KnowsNumbers held.reader held.certainties (certainties offset x)

-- each lane has taken the windows at its offset
abbrev pub LanesStandFor : List HeldLane → List ℤ → Type 0
LanesStandFor lanes x =
    (offset : ℕ) (d : HeldLane) → offset < 8 → LaneHasTaken (slice_index_or lanes offset d) offset x

-- what ends less than a reach before a number of samples, or after it
abbrev pub not_past : ℕ → List Heard → List Heard
not_past count items = filter (λ item. nat_le count (item.end + reach)) items

-- What is kept of what was heard of so many samples: all that an item to come can repeat.
pub record Keeps (kept : List Heard) (count : ℕ) (heard : List Heard) : Type 0 where
  pub least : ℕ
  pub below : least ≤ count
  pub kept_is : kept ≡ not_past least heard

-- the lanes, the last seven samples, how many samples were taken, what can still be repeated, and whether want of
-- memory spent the receiver
pub record Held : Type 0 where
  pub lanes : List HeldLane
  pub recent : List ℤ
  pub position : ℕ
  pub kept : List Heard
  pub spent : Bool

-- what a receiver heard of these samples and gave
pub record HasHeard (kept : List Heard) (x : List ℤ) (given : List Heard) : Type 0 where
  pub heard : List Heard
  pub are : AreHeard x heard
  pub keeps : Keeps kept (length x) heard
  pub given_is : given ≡ merged heard

-- lanes, a count and what is kept, after these samples were taken and these items given
pub record AreAfter (lanes : List HeldLane) (position : ℕ) (kept : List Heard) (x : List ℤ) (given : List Heard)
    : Type 0 where
  pub count : position ≡ length x
  pub lanes_stand : LanesStandFor lanes x
  pub has_heard : HasHeard kept x given

-- it has taken these samples and given these items
abbrev pub HasTaken : Held → List ℤ → List Heard → Type 0
HasTaken held x given = AreAfter held.lanes held.position held.kept x given

-- and keeps their last seven, and every growth that it wanted was given
pub record StandsFor (held : Held) (x : List ℤ) (given : List Heard) : Type 0 where
  pub spent : held.spent ≡ false
  pub recent : held.recent ≡ last_seven x
  pub taken : HasTaken held x given
