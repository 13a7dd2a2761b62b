-- The text of lines is that of their parts.
use Rattle.tnc_record.proofs.Common.{◌≡◌, List, ◌++◌, map, sym, ap, ◌∙◌, flat_map-append, Candidate, LaneGap, GapLine}
use Rattle.tnc_record.proofs.Common.{FrameLine, report_text, turn_lines, text_of_gaps, text_of_frames, text_of_losses}
use Rattle.std.proofs.lemmas.List.Folds.{flat_map-map}
use Rattle.ring_recorder.specs.declared.loss.Loss.{Loss}
use Rattle.tnc_record.specs.RecordText.{Line, LostLine, ended_line}

pub report_append : (xs ys : List Line) → report_text (xs ++ ys) ≡ report_text xs ++ report_text ys
report_append xs ys = flat_map-append ended_line xs ys

pub turn_text : (gaps : List LaneGap) (items : List Candidate)
    → text_of_gaps gaps ++ text_of_frames items ≡ report_text (turn_lines gaps items)
turn_text gaps items =
    sym (report_append (map GapLine gaps) (map FrameLine items)
    ∙ ap (λ t. t ++ report_text (map FrameLine items)) (flat_map-map ended_line GapLine gaps)
    ∙ ap (λ t. text_of_gaps gaps ++ t) (flat_map-map ended_line FrameLine items))

pub losses_text : (losses : List Loss) → text_of_losses losses ≡ report_text (map LostLine losses)
losses_text losses = sym (flat_map-map ended_line LostLine losses)
