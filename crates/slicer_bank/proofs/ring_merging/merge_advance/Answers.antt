use Rattle.slicer_bank.proofs.RingMergingLemmas.{merges_turn, merges_rest}
use Rattle.slicer_bank.proofs.ring_merging.merge_advance.Goals as goal

pub returns-clause-heard : goal.returns-clause-heard
returns-clause-heard c = λ goes before now h b.
    merges_turn before now c.args.positions.now c.args.candidates.items c.in_ok-ready.ready.items b c.args.merger.now
    c.put_all.new.merger c.mark_each.new.merger c.take_ready.new.self h
    c.in_ok-put_all.ensures.stands_for c.mark_each.ensures.stands_for (c.mark_each.ensures.marks goes)
    c.take_ready.ensures.marks c.in_ok-ready.ensures.ready

pub returns-clause-rest : goal.returns-clause-rest
returns-clause-rest c = λ over before now h b.
    merges_rest before now c.args.positions.now c.args.candidates.items c.in_ok-ready.ready.items b c.args.merger.now
    c.put_all.new.merger c.mark_each.new.merger c.take_ready.new.self h
    c.in_ok-put_all.ensures.stands_for c.mark_each.ensures.stands_for
    (c.in_ok-ready.ensures.last (c.mark_each.ensures.least over))
