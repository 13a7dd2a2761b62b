use Rattle.tnc_record.proofs.Common.{ap, ring_len}
use Rattle.std.specs.Prelude.{is_some}
use Rattle.tnc_record.proofs.EndLemmas.{all_recorded}
use Rattle.tnc_record.proofs.recording.record.Goals as goal

pub run_beside-requires-clause-new : goal.run_beside-requires-clause-new
run_beside-requires-clause-new g c κs within = c.in-Ok-new.ensures.stands (ring_len c.in-Ok.ring)

pub returns : goal.returns
returns g c =
    all_recorded c.args.words _ c.run_beside.new.end c.close.result (ring_len c.in-Ok.ring)
    c.run_beside.new.listening _ _ _ _ _ _ (ap is_some c.in-Some.is)
    c.in-Ok.ensures.len c.run_beside.ensures.looped
    (λ recording answered. c.close.ensures _ _ recording c.in-Some.ensures.pumped answered)
