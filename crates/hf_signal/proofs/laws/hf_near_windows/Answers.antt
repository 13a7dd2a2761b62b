use Rattle.hf_signal.proofs.NearWindows.{tone_of-near}
use Rattle.hf_signal.proofs.laws.hf_near_windows.Goals as goal

pub returns : goal.returns
returns c = tone_of-near
