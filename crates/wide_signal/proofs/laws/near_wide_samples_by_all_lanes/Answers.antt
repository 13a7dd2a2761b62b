use Rattle.wide_signal.proofs.Common.{subst, arith}
use Rattle.clean_signal.specs.NearSignal.{IsNearAll}
use Rattle.resampler.specs.Filtered.{decimated}
use Rattle.sensitive_receiver.specs.Stray.{MergesTo}
use Rattle.sensitive_receiver.proofs.SignalLaw.{near_law}
use Rattle.wide_signal.specs.WideSignal.{inside}
use Rattle.wide_signal.proofs.NearWide.{first_stream, frames_inside, inside_good, near_inside}
use Rattle.wide_signal.proofs.laws.near_wide_samples_by_all_lanes.Goals as goal

pub returns : goal.returns
returns c = λ received x good near no_stray.
    subst (λ frames. MergesTo frames (decimated x)) (frames_inside received)
    (near_law (inside received) (decimated x) (inside_good received good)
    (subst (λ y. IsNearAll (inside received) y) (first_stream x) (near_inside 0 received x (omega arith) good near)) no_stray)
