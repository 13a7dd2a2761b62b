use Rattle.station_laws.proofs.OneSpelling.{written_frames_agree}
use Rattle.station_laws.proofs.laws.written_frames_agree.Goals as goal

pub returns : goal.returns
returns c = written_frames_agree
