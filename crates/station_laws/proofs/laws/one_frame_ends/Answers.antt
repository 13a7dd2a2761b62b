use Rattle.station_laws.proofs.OneFrameEnds.{one_frame_ends}
use Rattle.station_laws.proofs.laws.one_frame_ends.Goals as goal

pub returns : goal.returns
returns c = one_frame_ends
