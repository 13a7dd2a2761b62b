use Rattle.slicer_bank.proofs.Common.{List, [], ap, ◌∙◌, arith, refl, map, replicate, Reader, position_of, answers_of}
use Rattle.slicer_bank.proofs.ReaderLemmas.{nothing_answered, at_the_start}
use Rattle.slicer_bank.proofs.ring_bank.RingBank.listening.Goals as goal

pub invariant_of-result : goal.invariant_of-result
invariant_of-result c =
    let made = c.in_ok-new_ring_lanes.ensures in
    let eight = c.requires.eight in
    let room = c.new_ring_lanes.ensures.room in
    let held = c.args.readers.ok in
    let size = held.0 in
    let fits = held.1 in
    (made.count, made.empty, omega arith, λ k d l. (made.listen 0 k d l).place, λ e. made.taken)

pub returns-clause-listens : goal.returns-clause-listens
returns-clause-listens c = λ len. record { spent = refl; lanes = c.in_ok-new_ring_lanes.ensures.listen len }

pub returns-clause-nothing : goal.returns-clause-nothing
returns-clause-nothing c = λ len.
    ap (λ (r : List Reader). map (answers_of len) r) c.in_ok-new_ring_lanes.ensures.readers
    ∙ nothing_answered len c.args.readers.items c.requires.fresh
    ∙ ap (λ n. replicate n []) c.requires.eight

pub returns-clause-start : goal.returns-clause-start
returns-clause-start c =
    ap (λ (r : List Reader). map position_of r) c.in_ok-new_ring_lanes.ensures.readers
    ∙ at_the_start c.args.readers.items c.requires.fresh ∙ ap (λ n. replicate n 0) c.requires.eight
