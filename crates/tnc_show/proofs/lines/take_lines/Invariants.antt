-- The octets of the piece so far.
use Rattle.std.proofs.Common.{◌≡◌, ◌+◌, length}
use Rattle.tnc_forms.specs.HeldLine.{position_of}
use Rattle.tnc_show.specs.HeldShow.{TookFront}
use Rattle.tnc_show.proofs.lines.take_lines.Given as goal

abbrev pub invariant-lines : goal.invariant-lines
invariant-lines l = record {
  took : TookFront l.fn.modulus l.fn.lines l.fn.octets l.rest l.text.items l.lines;
  least : l.lines.least ≡ 0;
  position : position_of l.lines + length l.rest ≡ position_of l.fn.lines + length l.fn.octets;
}

abbrev pub decreases-lines : goal.decreases-lines
decreases-lines l = length l.rest
