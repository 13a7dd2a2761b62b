-- What a lane keeps of the tones that it takes, and what that stands for.
use Rattle.std.specs.Prelude.{◌≡◌, ℕ, List}
use Rattle.tone_table.specs.declared.tone.Tone.{Tone}
use Rattle.nrzi_bits.specs.Line.{bits_of, last_tone}
use Rattle.hdlc_framer.specs.Held.{Held as HeldDeframer}
use Rattle.hdlc_framer.specs.Late.{StandsFor as LateStandsFor}

-- the tone taken last, the deframer, the last eight bits, and how many of them it has not taken
pub record HeldLane : Type 0 where
  pub line : Tone
  pub deframer : HeldDeframer
  pub last : ℕ
  pub waiting : ℕ

-- the lane has taken these tones
pub record LaneStandsFor (held : HeldLane) (tones : List Tone) : Type 0 where
  pub line : held.line ≡ last_tone tones
  pub plain : LateStandsFor held.deframer held.last held.waiting (bits_of tones)
