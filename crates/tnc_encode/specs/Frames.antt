-- The frames of an input in its two forms: lines of hexadecimal digits, or a KISS stream, of which the data frames on
-- port 0 that have a frame's length are taken.
use Rattle.std.specs.Prelude.{ℕ, ◌==◌, ◌&&◌, if◌then◌else◌, List, Option, Some, None}
use Rattle.std.specs.List.{filter_map}
use Rattle.hdlc_framer.specs.FrameLength.{has_frame_length, least_frame_length}
use Rattle.kiss_port.specs.declared.item.KissItem.{KissItem}
use Rattle.kiss_port.specs.declared.item.KissItem.TheVariants.{Frame}
use Rattle.kiss_port.specs.Items.{items_in}
use Rattle.tnc_forms.specs.declared.fault.InputFault.{InputFault}
use Rattle.tnc_forms.specs.Faults.{hex_fault}
use Rattle.tnc_forms.specs.HexFrames.{frames_in_lines}
use Rattle.tnc_forms.specs.LinesSoFar.{fault_so_far as fault_of_lines_so_far, frames_so_far as frames_of_lines_so_far}
use Rattle.tnc_words.specs.declared.command.FrameForm.{FrameForm}
use Rattle.tnc_words.specs.declared.command.FrameForm.TheVariants.{Hex, Kiss}

-- the frame of an item that is data on port 0 and as long as a frame
abbrev pub frame_of : KissItem → Option (List ℕ)
frame_of (Frame port octets) =
    if (port == 0) && has_frame_length octets then Some octets else None
frame_of other = None

-- the frames of a KISS stream
unfoldable pub kiss_frames : List ℕ → List (List ℕ)
kiss_frames stream = filter_map frame_of (items_in stream)

-- the frames of an input, those before its first bad line if there is one
abbrev pub frames_of_input : FrameForm → List ℕ → List (List ℕ)
frames_of_input Hex octets = frames_in_lines least_frame_length octets
frames_of_input Kiss octets = kiss_frames octets

-- what is wrong with an input's form: any octets are a KISS stream
abbrev pub form_fault : FrameForm → List ℕ → Option InputFault
form_fault Hex octets = hex_fault least_frame_length octets
form_fault Kiss octets = None

-- the frames of octets that are known before the input has ended: those of the lines that a line feed has ended, or of
-- the items that a FEND has
abbrev pub frames_so_far : FrameForm → List ℕ → List (List ℕ)
frames_so_far Hex octets = frames_of_lines_so_far least_frame_length octets
frames_so_far Kiss octets = kiss_frames octets

-- what is known to be wrong with their form
abbrev pub form_fault_so_far : FrameForm → List ℕ → Option InputFault
form_fault_so_far Hex octets = fault_of_lines_so_far least_frame_length octets
form_fault_so_far Kiss octets = None
