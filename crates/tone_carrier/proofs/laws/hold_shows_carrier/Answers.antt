use Rattle.std.proofs.lemmas.Bool.{lt-ltb, ltb-true}
use Rattle.std.proofs.Common.{refl}
use Rattle.tone_carrier.specs.Hold.{last_hold}
use Rattle.tone_carrier.proofs.HoldLemmas.{shows_by_hold}
use Rattle.tone_carrier.proofs.laws.hold_shows_carrier.Goals as goal

pub returns : goal.returns
returns c = λ windows. (
  λ some. (shows_by_hold windows (last_hold windows) refl).0 (lt-ltb 0 (last_hold windows) some),
  λ shown. ltb-true 0 (last_hold windows) ((shows_by_hold windows (last_hold windows) refl).1 shown),
)
