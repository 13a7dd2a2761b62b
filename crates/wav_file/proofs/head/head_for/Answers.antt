use Rattle.wav_file.specs.Head.{head_before}
use Rattle.wav_file.proofs.head.head_for.Goals as goal

pub returns : goal.returns
unfolding head_before
returns c = rw (c.write_u32-2.ensures, c.write_u32.ensures)
