-- What the code keeps of an input whose frames are sent as they come. No public clause cites it.
use Rattle.std.specs.Prelude.{◌≡◌, ℕ, ⊤, List}
use Rattle.kiss_port.specs.Held.{StandsFor as KissStandsFor}
use Rattle.tnc_forms.specs.HeldLine.{StandsFor as LineStandsFor, position_of}
use Rattle.tnc_forms.specs.Form.{Form}
use Rattle.tnc_words.specs.declared.command.EncodeWords.{EncodeWords}
use Rattle.tnc_words.specs.declared.command.FrameForm.{FrameForm}
use Rattle.tnc_words.specs.declared.command.FrameForm.TheVariants.{Hex, Kiss}
use Rattle.tnc_encode.specs.declared.frame_in.FrameIn.{FrameIn}
use Rattle.tnc_encode.specs.declared.frame_in.FrameIn.TheVariants.{Lines, Items}
use Rattle.tnc_encode.specs.declared.sender.Sender.{Sender}
use Rattle.tnc_encode.specs.Frames.{form_fault, form_fault_so_far, frames_of_input, frames_so_far}
use Rattle.tnc_encode.specs.Writing.{CanSend}
use Rattle.hdlc_framer.specs.FrameLength.{least_frame_length}

-- the octets were taken, and no fault is known of them
abbrev pub HasTaken : FrameForm → FrameIn → List ℕ → Type 0
HasTaken Hex (Lines lines) octets = LineStandsFor lines octets
HasTaken Kiss (Items items) octets = KissStandsFor items octets
HasTaken form other octets = ⊥

-- lines are read as those of frames
abbrev pub IsReader : FrameIn → Type 0
IsReader (Lines lines) = lines.least ≡ least_frame_length
IsReader (Items items) = ⊤

-- how many octets have come, as far as that is kept
abbrev pub position : FrameIn → ℕ
position (Lines lines) = position_of lines
position (Items items) = 0

abbrev pub form_of : FrameForm → Form
form_of form = record {
  frames_so_far = frames_so_far form;
  frames_of = frames_of_input form;
  fault_so_far = form_fault_so_far form;
  fault_of = form_fault form;
}

-- by these words the sender has taken these octets
pub record HasSent (sender : Sender) (words : EncodeWords) (octets : List ℕ) : Type 0 where
  pub same : sender.words ≡ words
  pub can : CanSend words
  pub reader : IsReader sender.frames
  pub taken : HasTaken words.frames sender.frames octets
