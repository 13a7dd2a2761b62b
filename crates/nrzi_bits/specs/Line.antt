-- Inverted NRZ on an HDLC line (ISO/IEC 3309 over Bell 202): a 1 keeps the tone, a 0 changes it. The line stands at
-- mark before the first bit.
use Rattle.std.specs.Prelude.{List, [], ◌∷◌, Bool, true, false}
use Rattle.tone_table.specs.declared.tone.Tone.{Tone}
use Rattle.tone_table.specs.declared.tone.Tone.TheVariants.{Mark, Space}

-- the tone of a bit: a 1 keeps the tone before, a 0 changes it
abbrev pub sent_tone : Tone → Bool → Tone
sent_tone before true = before
sent_tone Mark false = Space
sent_tone Space false = Mark

-- the tones of a list of bits
abbrev pub line_from : Tone → List Bool → List Tone
line_from before [] = []
line_from before (bit ∷ bits) = sent_tone before bit ∷ line_from (sent_tone before bit) bits

abbrev pub line : List Bool → List Tone
line bits = line_from Mark bits

-- whether two tones agree
abbrev pub same_tone : Tone → Tone → Bool
same_tone Mark Mark = true
same_tone Mark Space = false
same_tone Space Mark = false
same_tone Space Space = true

-- the bits of a list of tones: a bit is 1 exactly when its tone and the one before agree
abbrev pub bits_from : Tone → List Tone → List Bool
bits_from before [] = []
bits_from before (tone ∷ tones) = same_tone before tone ∷ bits_from tone tones

abbrev pub bits_of : List Tone → List Bool
bits_of tones = bits_from Mark tones

-- the tone at which the line stands after a list of tones
abbrev pub last_from : Tone → List Tone → Tone
last_from before [] = before
last_from before (tone ∷ tones) = last_from tone tones

abbrev pub last_tone : List Tone → Tone
last_tone tones = last_from Mark tones
