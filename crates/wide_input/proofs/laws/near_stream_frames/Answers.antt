use Rattle.wide_input.proofs.WideLaw.{near_stream_law}
use Rattle.wide_input.proofs.laws.near_stream_frames.Goals as goal

pub returns : goal.returns
returns c = near_stream_law
