-- What a recording reports, line by line.
use Rattle.std.specs.Prelude.{ℕ, List, [], ◌∷◌, ◌++◌, codes, decimal, map}
use Rattle.std.specs.List.{flat_map}
use Rattle.hex.specs.Hex.{encode_lower}
use Rattle.frame_merge.specs.declared.candidate.Candidate.{Candidate}
use Rattle.ring_recorder.specs.declared.loss.Loss.{Loss}
use Rattle.slicer_bank.specs.declared.advance.LaneGap.{LaneGap}

pub data Line : Type 0 where
  -- a reader of the receiver was told of a gap
  GapLine : LaneGap → Line
  -- a frame was heard
  FrameLine : Candidate → Line
  -- the recorder lost samples
  LostLine : Loss → Line

-- the text of a line, without the line feed that ends it; a frame is told by its end and its octets in hexadecimal
abbrev pub line_text : Line → List ℕ
line_text (GapLine gap) =
    codes "gap " ++ decimal gap.lane ++ codes " " ++ decimal gap.from ++ codes " " ++ decimal gap.to
line_text (FrameLine item) = codes "frame " ++ decimal item.end ++ codes " " ++ encode_lower item.octets
line_text (LostLine loss) = codes "lost " ++ decimal loss.from ++ codes " " ++ decimal loss.to

abbrev pub ended_line : Line → List ℕ
ended_line line = line_text line ++ 10 ∷ []

abbrev pub report_text : List Line → List ℕ
report_text lines = flat_map ended_line lines

-- the lines of gaps, of frames and of losses, one for each
abbrev pub text_of_gaps : List LaneGap → List ℕ
text_of_gaps gaps = flat_map (λ gap. ended_line (GapLine gap)) gaps

abbrev pub text_of_frames : List Candidate → List ℕ
text_of_frames items = flat_map (λ item. ended_line (FrameLine item)) items

abbrev pub text_of_losses : List Loss → List ℕ
text_of_losses losses = flat_map (λ loss. ended_line (LostLine loss)) losses

-- the lines of a turn: the gaps, and then the frames that are due
abbrev pub turn_lines : List LaneGap → List Candidate → List Line
turn_lines gaps items = map GapLine gaps ++ map FrameLine items
