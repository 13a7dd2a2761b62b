-- What a lane keeps, and what that stands for.
use Rattle.std.specs.Prelude.{◌≡◌, ℕ, ◌+◌, ◌%◌, ◌<◌, ◌≤◌, List, length, slice_index_or}
use Rattle.tone_table.specs.declared.tone.Tone.{Tone}
use Rattle.fx25_receiver.specs.Held.{HeldLane as HeldTones, LaneStandsFor}
use Rattle.fx25_receiver.specs.Known.{KnowsNumbers}

-- the tones and how sure they are, the ends of the last 2048 bits, each where its number is modulo 2048, and where the next
-- one goes
pub record HeldLane : Type 0 where
  pub lane : HeldTones
  pub ends : List ℕ
  pub next : ℕ

-- the lane has read these tones, whose bits have these numbers and end there
pub record LaneHasRead (held : HeldLane) (tones : List Tone) (numbers ends : List ℕ) : Type 0 where
  pub tones_stand : LaneStandsFor held.lane tones
  pub knows : KnowsNumbers held.lane.reader held.lane.certainties numbers
  pub next_is : held.next ≡ length ends % 2048
  pub size : length held.ends ≡ 2048
  pub kept : (i : ℕ) → i < length ends → length ends ≤ i + 2048
      → slice_index_or held.ends (i % 2048) 0 ≡ slice_index_or ends i 0
