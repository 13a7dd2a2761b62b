use Rattle.live_receiver.proofs.Common.{◌-◌, ◌/◌, arith}
use Rattle.live_receiver.proofs.Common.{following}
use Rattle.live_receiver.proofs.MergeLemmas.{settled_at}
use Rattle.live_receiver.proofs.hf_merging.settle.Goals as goal

pub returns-clause-settled : goal.returns-clause-settled
returns-clause-settled c = λ goes puts given h.
    let fits = c.ranges.position.fits in
    settled_at c.args.sensitive (c.args.position / 4 - following c.args.sensitive) (omega arith) c.mark_all.new.merger c.take_ready.new.self puts given
    c.in_ok-ready.ready.items (c.mark_all.ensures.marks goes)
    (c.in_ok-ready.ensures.ready puts given (c.mark_all.ensures.stands_for puts given h))

pub returns-clause-rest : goal.returns-clause-rest
returns-clause-rest c = λ over puts given h.
    c.in_ok-ready.ensures.last (c.mark_all.ensures.least over) puts given (c.mark_all.ensures.stands_for puts given h)
