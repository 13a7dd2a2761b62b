-- The lines so far.
use Rattle.tnc_forms.proofs.Common.{◌+◌, ◌-◌, length}
use Rattle.std.specs.Option.{option_map_or}
use Rattle.tnc_forms.proofs.HexFrameLemmas.{HasReadLines}
use Rattle.tnc_forms.proofs.hex_frames.read_hex_frames.Given as goal

abbrev pub invariant-lines : goal.invariant-lines
invariant-lines l = HasReadLines l.fn.least l.input l.frames.items l.place

abbrev pub decreases-lines : goal.decreases-lines
decreases-lines l = option_map_or (λ at. length l.input - at + 1) l.place 0
