-- What a deframer keeps of the bits since its opening state. No public clause looks inside: they cite `StandsFor` and
-- `HoldsFrame` alone.
use Rattle.std.specs.Prelude.{◌≡◌, ℕ, ◌+◌, ◌==◌, ◌&&◌, min, nat_lt, if◌then◌else◌, Bool, true, false, List, [], ◌∷◌}
use Rattle.std.specs.Prelude.{◌++◌, length, Option, Some, None}
use Rattle.std.specs.List.{fold}
use Rattle.hdlc_framer.specs.BitOrder.{sent_bits}
use Rattle.hdlc_framer.specs.Frames.{with_fcs}
use Rattle.hdlc_framer.specs.HeldCarrier.{HeldCarrier, CarrierStandsFor}

-- the run of 1s at the end (seven stands for more, too), whether a 0 has come, and the bits since the last flag without
-- inserted zeros; no content if there was no flag, or an abort or too many bits since
pub record Line : Type 0 where
  pub ones : ℕ
  pub after_zero : Bool
  pub content : Option (List Bool)

-- content and one bit more; 1026 octets, the first six bits of a flag and one bit are the most that is kept
abbrev pub longer : Option (List Bool) → Bool → Option (List Bool)
longer None bit = None
longer (Some content) bit = if nat_lt (length content) 8215 then Some (content ++ bit ∷ []) else None

-- the content after a 1: the sixth in a row belongs to a flag, the seventh to an abort
abbrev pub content_after_one : ℕ → Option (List Bool) → Option (List Bool)
content_after_one ones content = if nat_lt ones 5 then longer content true else if ones == 5 then content else None

-- the content after a 0: it is left out after five 1s, and ends a flag after six
abbrev pub content_after_zero : ℕ → Bool → Option (List Bool) → Option (List Bool)
content_after_zero ones after_zero content =
    if nat_lt ones 5 then longer content false else if ones == 5 then content else if (ones == 6) && after_zero
    then Some [] else None

abbrev pub next_line : Line → Bool → Line
next_line line true = record {
  ones = min 7 (line.ones + 1);
  after_zero = line.after_zero;
  content = content_after_one line.ones line.content;
}
next_line line false = record {
  ones = 0;
  after_zero = true;
  content = content_after_zero line.ones line.after_zero line.content;
}

-- before any bit
abbrev pub new_line : Line
new_line = record { ones = 0; after_zero = false; content = None }

-- right after a flag
abbrev pub open_line : Line
open_line = record { ones = 0; after_zero = true; content = Some [] }

-- the line after these bits
unfoldable pub line_after : List Bool → Line
line_after bits = fold next_line new_line bits

-- what the first six bits of a flag leave at the end of the content
abbrev pub flag_start : List Bool
flag_start = false ∷ true ∷ true ∷ true ∷ true ∷ true ∷ []

-- The line, or if the last bit ended a frame, the line before that bit: so the frame is kept until the next bit. Beside
-- it the detector of a carrier.
pub record Held : Type 0 where
  pub line : Line
  pub framed : Bool
  pub carrier : HeldCarrier

-- how many flags in a row the deframer listens for
abbrev pub flags_asked : Held → ℕ
flags_asked held = held.carrier.flags

-- the line after the last bit
abbrev pub line_of : Held → Line
line_of held = if held.framed then open_line else held.line

-- the deframer has taken these bits since its opening state
pub record StandsFor (held : Held) (bits : List Bool) : Type 0 where
  pub line : line_of held ≡ line_after bits
  pub carrier : CarrierStandsFor held.carrier bits

-- the last bit ended a frame with these octets
pub record HoldsFrame (held : Held) (octets : List ℕ) : Type 0 where
  pub framed : held.framed ≡ true
  pub content : held.line.content ≡ Some (sent_bits (with_fcs octets) ++ flag_start)
