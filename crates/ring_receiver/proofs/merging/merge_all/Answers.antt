use Rattle.ring_receiver.proofs.Common.{ℕ, ◌++◌, ap, ◌∙◌, replicate}
use Rattle.ring_receiver.proofs.MergeLemmas.{merges_all, merges_all_rest}
use Rattle.ring_receiver.proofs.merging.merge_all.Goals as goal

pub returns-clause-heard : goal.returns-clause-heard
returns-clause-heard c = λ goes before now h b.
    merges_all before now c.args.positions.now c.args.position c.args.eight.items c.args.added.items
    c.in_ok-ready.ready.items b c.args.merger.now c.put_all-2.new.merger c.mark_each.new.merger c.take_ready.new.self h
    (λ puts given stands. c.in_ok-put_all-2.ensures.stands_for (puts ++ c.args.eight.items) given
    (c.in_ok-put_all.ensures.stands_for puts given stands))
    c.mark_each.ensures.stands_for
    (c.mark_each.ensures.marks goes
    ∙ ap (λ (p : ℕ). c.args.positions.now ++ replicate 18 p) c.saturating_sub.ensures)
    c.take_ready.ensures.marks c.in_ok-ready.ensures.ready

pub returns-clause-rest : goal.returns-clause-rest
returns-clause-rest c = λ over before now h b.
    merges_all_rest before now c.args.positions.now c.args.position c.args.eight.items c.args.added.items
    c.in_ok-ready.ready.items b c.args.merger.now c.put_all-2.new.merger c.mark_each.new.merger c.take_ready.new.self h
    (λ puts given stands. c.in_ok-put_all-2.ensures.stands_for (puts ++ c.args.eight.items) given
    (c.in_ok-put_all.ensures.stands_for puts given stands))
    c.mark_each.ensures.stands_for (c.in_ok-ready.ensures.last (c.mark_each.ensures.least over))
