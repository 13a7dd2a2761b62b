-- What show makes of the octets of its input: a line of text for each frame.
use Rattle.std.specs.Prelude.{◌≡◌, ℕ, ◌⊎◌, List, [], ◌∷◌, ◌++◌, take, Option, None}
use Rattle.std.specs.List.{AllZip, flat_map}
use Rattle.ax25_frames.specs.declared.frame.Modulus.{Modulus}
use Rattle.ax25_frames.specs.declared.frame.Frame.{Frame}
use Rattle.ax25_frames.specs.declared.fault.FrameFault.{FrameFault}
use Rattle.ax25_frames.specs.FrameOctets.{IsFrame}
use Rattle.ax25_frames.specs.FrameFault.{ShowsFrameFault}
use Rattle.ax25_frames.specs.FrameText.{text_of_frame, text_of_frame_fault}
use Rattle.tnc_forms.specs.declared.fault.InputFault.{InputFault}
use Rattle.tnc_forms.specs.Faults.{hex_fault}
use Rattle.tnc_forms.specs.HexFrames.{frames_in_lines}
use Rattle.tnc_forms.specs.LinesSoFar.{fault_as_read, fault_so_far, frames_so_far}
use Rattle.tnc_forms.specs.Reading.{input_limit}
use Rattle.tnc_words.specs.declared.command.ShowWords.{ShowWords}

-- the line is the text of the frame that the octets are
abbrev pub IsLineOfFrame : Modulus → List ℕ → List ℕ → Type 0
IsLineOfFrame modulus octets line = (frame : Frame) × IsFrame frame modulus octets × (line ≡ text_of_frame frame)

-- the line is the text of the fault that the octets show
abbrev pub IsLineOfFault : Modulus → List ℕ → List ℕ → Type 0
IsLineOfFault modulus octets line =
    (fault : FrameFault) × ShowsFrameFault modulus octets fault × (line ≡ text_of_frame_fault fault)

-- The line of octets: of their frame, or of their fault if they are none.
abbrev pub IsLineOf : Modulus → List ℕ → List ℕ → Type 0
IsLineOf modulus octets line = IsLineOfFrame modulus octets line ⊎ IsLineOfFault modulus octets line

-- a line, and the line feed that ends it
abbrev pub ended : List ℕ → List ℕ
ended line = line ++ 10 ∷ []

-- The text is the lines of frames, in order and each ended.
pub record IsTextOf (modulus : Modulus) (frames : List (List ℕ)) (text : List ℕ) : Type 0 where
  pub lines : List (List ℕ)
  pub each : AllZip (IsLineOf modulus) frames lines
  pub is : text ≡ flat_map ended lines

-- The text is the lines of the frames of an input, which may have any number of octets each. If a line of the input
-- is bad, the frames are those before it.
abbrev pub IsShown : ShowWords → List ℕ → List ℕ → Type 0
IsShown words octets text = IsTextOf words.modulus (frames_in_lines 0 octets) text

-- The text is what octets show before it is known whether more follow: the lines of the frames whose lines have ended.
-- None of these is bad.
pub record IsShownSoFar (words : ShowWords) (octets text : List ℕ) : Type 0 where
  pub good : fault_so_far 0 octets ≡ None
  pub is : IsTextOf words.modulus (frames_so_far 0 octets) text

-- The text is what is shown of the first 2^40 octets of an input that has more.
abbrev pub IsShownOfMany : ShowWords → List ℕ → List ℕ → Type 0
IsShownOfMany words octets text = IsTextOf words.modulus (frames_so_far 0 (take input_limit octets)) text

-- The text is a first part of the lines of the first frames of an input.
pub record IsShownPart (words : ShowWords) (octets part : List ℕ) : Type 0 where
  pub frames : List (List ℕ)
  pub others : List (List ℕ)
  pub parts : frames_in_lines 0 octets ≡ frames ++ others
  pub text : List ℕ
  pub is : IsTextOf words.modulus frames text
  pub rest : List ℕ
  pub begins : text ≡ part ++ rest

-- Why an input is refused: for its first bad line, or else because it is too long.
abbrev pub show_fault : List ℕ → Option InputFault
show_fault octets = fault_as_read (fault_so_far 0 (take input_limit octets)) (hex_fault 0 octets) octets
