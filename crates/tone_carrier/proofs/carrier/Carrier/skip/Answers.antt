use Rattle.std.proofs.Common.{refl}
use Rattle.tone_carrier.proofs.CarrierLemmas.{stands_empty}
use Rattle.tone_carrier.proofs.carrier.Carrier.skip.Goals as goal

pub returns-clause-stands_for : goal.returns-clause-stands_for
returns-clause-stands_for c =
    stands_empty c.new_lanes-self-inside.result c.args.to _ refl c.new_lanes-self-inside.ensures
