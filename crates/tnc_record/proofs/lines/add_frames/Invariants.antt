use Rattle.tnc_record.proofs.Common.{◌≡◌, ◌++◌, take, text_of_frames}
use Rattle.tnc_record.proofs.lines.add_frames.Given as goal

abbrev pub invariant-loop-item : goal.invariant-loop-item
invariant-loop-item l = l.text.items ≡ l.initial.text.items ++ text_of_frames (take l.item-index l.items)
