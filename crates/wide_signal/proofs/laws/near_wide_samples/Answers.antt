use Rattle.wide_signal.proofs.Common.{subst}
use Rattle.clean_signal.specs.NearSignal.{transmissions_of}
use Rattle.resampler.specs.Filtered.{filtered}
use Rattle.wide_input.specs.Stray.{WideMergesTo}
use Rattle.wide_input.proofs.WideLaw.{near_stream_law}
use Rattle.wide_signal.specs.WideSignal.{inside}
use Rattle.wide_signal.proofs.NearWide.{frames_inside, inside_good, near_inside}
use Rattle.wide_signal.proofs.laws.near_wide_samples.Goals as goal

pub returns : goal.returns
returns c = λ r received x small good near no_stray.
    subst (λ frames. WideMergesTo frames (filtered x)) (frames_inside received)
    (near_stream_law r (inside received) (filtered x) small (inside_good received good) (near_inside r received x small good near)
    no_stray)
