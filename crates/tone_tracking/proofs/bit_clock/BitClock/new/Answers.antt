use Rattle.tone_tracking.proofs.Common.{refl, clock_after}
use Rattle.tone_tracking.proofs.bit_clock.BitClock.new.Goals as goal

pub returns-clause-stands_for : goal.returns-clause-stands_for
unfolding clock_after
returns-clause-stands_for c = λ tones. refl
