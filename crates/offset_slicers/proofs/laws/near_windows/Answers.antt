use Rattle.offset_slicers.proofs.NearWindows.{tone_of-near}
use Rattle.offset_slicers.proofs.laws.near_windows.Goals as goal

pub returns : goal.returns
returns c = tone_of-near
