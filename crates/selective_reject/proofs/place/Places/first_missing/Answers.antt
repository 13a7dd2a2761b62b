use Rattle.selective_reject.proofs.PlaceLemmas.{missing-none}
use Rattle.selective_reject.proofs.place.Places.first_missing.Goals as goal

pub loop-place-init : goal.loop-place-init
loop-place-init c = missing-none c.args.self.now
