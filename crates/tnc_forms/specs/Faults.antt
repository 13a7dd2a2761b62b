-- The faults that lie in an input.
use Rattle.std.specs.Prelude.{ℕ, nat_lt, if◌then◌else◌, List, Option, Some, None, length}
use Rattle.tnc_forms.specs.declared.fault.InputFault.{InputFault}
use Rattle.tnc_forms.specs.declared.fault.InputFault.TheVariants.{TooLong, Line}
use Rattle.tnc_forms.specs.declared.line_fault.LineFault.{LineFault}
use Rattle.tnc_forms.specs.HexFrames.{line_fault}
use Rattle.tnc_forms.specs.Reading.{input_limit}

-- an input with too many octets is refused for that, and any other for what is wrong with its form
abbrev pub fault_within : List ℕ → Option InputFault → Option InputFault
fault_within octets of_form = if nat_lt input_limit (length octets) then Some TooLong else of_form

abbrev pub fault_in_line : Option LineFault → Option InputFault
fault_in_line (Some fault) = Some (Line fault)
fault_in_line None = None

-- what is wrong with lines of hexadecimal digits if a frame has so many octets or more: the first bad line
abbrev pub hex_fault : ℕ → List ℕ → Option InputFault
hex_fault least octets = fault_in_line (line_fault least octets)
