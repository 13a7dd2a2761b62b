use Rattle.offset_slicers.proofs.PureWindows.{tone_of-pure_window}
use Rattle.offset_slicers.proofs.laws.pure_windows.Goals as goal

pub returns : goal.returns
returns c = tone_of-pure_window
