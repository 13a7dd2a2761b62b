-- How frames are written: each as a line of lower-case hexadecimal digits, or as a KISS frame on port 0.
use Rattle.std.specs.Prelude.{ℕ, List, [], ◌∷◌, ◌++◌}
use Rattle.std.specs.List.{flat_map}
use Rattle.kiss_port.specs.Escapes.{fend, spelled}
use Rattle.kiss_port.specs.Items.{kind_of}
use Rattle.tnc_forms.specs.HexPrint.{printed_line}
use Rattle.tnc_words.specs.declared.command.FrameForm.{FrameForm}
use Rattle.tnc_words.specs.declared.command.FrameForm.TheVariants.{Hex, Kiss}

-- a KISS frame on port 0, whose command is 0
abbrev pub kiss_frame : List ℕ → List ℕ
kiss_frame octets = fend ∷ (spelled (kind_of 0 0 ∷ octets) ++ fend ∷ [])

abbrev pub printed : FrameForm → List ℕ → List ℕ
printed Hex octets = printed_line octets
printed Kiss octets = kiss_frame octets

-- the frames in order
unfoldable pub print : FrameForm → List (List ℕ) → List ℕ
print form frames = flat_map (printed form) frames
