-- What of lines is known before the input has ended.
use Rattle.std.specs.Prelude.{ℕ, nat_lt, if◌then◌else◌, Bool, List, [], ◌∷◌, length, Option, Some}
use Rattle.std.specs.Option.{option_or}
use Rattle.std.specs.Str.Lines.{strip_carriage_return}
use Rattle.tnc_forms.specs.declared.fault.InputFault.{InputFault}
use Rattle.tnc_forms.specs.declared.fault.InputFault.TheVariants.{TooLong}
use Rattle.tnc_forms.specs.Faults.{fault_in_line}
use Rattle.tnc_forms.specs.HexFrames.{fault_of_lines, frames_of_lines}
use Rattle.tnc_forms.specs.HexLines.{Line, ended_lines, lines_of}
use Rattle.tnc_forms.specs.Reading.{input_limit}

-- a line has too many octets, even if the last is a carriage return that belongs to the line feed to come
abbrev pub is_over : Line → Bool
is_over line = nat_lt 2048 (length (strip_carriage_return line.text))

-- the lines whose verdict no further octet changes: those that have ended, and the last one if it has too many octets
abbrev pub known_of : List Line → List Line
known_of [] = []
known_of (last ∷ []) = if is_over last then last ∷ [] else []
known_of (line ∷ next ∷ lines) = line ∷ known_of (next ∷ lines)

abbrev pub known_lines : List ℕ → List Line
known_lines octets = known_of (lines_of octets)

-- the frames of the lines that have ended, up to the first bad one
unfoldable pub frames_so_far : ℕ → List ℕ → List (List ℕ)
frames_so_far least octets = frames_of_lines least (ended_lines octets)

-- what is wrong with the first line that is known to be bad
unfoldable pub fault_so_far : ℕ → List ℕ → Option InputFault
fault_so_far least octets = fault_in_line (fault_of_lines least (known_lines octets))

-- Why an input is refused that is read piece by piece: for what is wrong with its form. Of an input with too many
-- octets the first 2^40 are taken. What is known to be wrong in these is told, or else that there are too many.
abbrev pub fault_as_read : Option InputFault → Option InputFault → List ℕ → Option InputFault
fault_as_read so_far whole octets =
    if nat_lt input_limit (length octets) then option_or so_far (Some TooLong) else whole
