use Rattle.std.proofs.Common.{refl}
use Rattle.tone_carrier.proofs.LaneLemmas.{lane_empty}
use Rattle.tone_carrier.proofs.carrier_lane.CarrierLane.restart.Goals as goal

pub returns : goal.returns
returns c = lane_empty _ refl refl refl
