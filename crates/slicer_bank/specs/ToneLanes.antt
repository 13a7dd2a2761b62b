-- What a lane keeps of the tones that it takes, and what that stands for.
use Rattle.std.specs.Prelude.{◌≡◌, List}
use Rattle.tone_table.specs.declared.tone.Tone.{Tone}
use Rattle.nrzi_bits.specs.Line.{bits_of, last_tone}
use Rattle.hdlc_framer.specs.Held.{Held as HeldDeframer, StandsFor as DeframerStandsFor}

-- the tone taken last, and the deframer of the bits
pub record HeldToneLane : Type 0 where
  pub before : Tone
  pub deframer : HeldDeframer

-- the lane has taken these tones
pub record ToneLaneStandsFor (held : HeldToneLane) (tones : List Tone) : Type 0 where
  pub before : held.before ≡ last_tone tones
  pub deframer : DeframerStandsFor held.deframer (bits_of tones)
