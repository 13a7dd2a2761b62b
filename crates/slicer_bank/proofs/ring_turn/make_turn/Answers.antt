use Rattle.slicer_bank.proofs.Common.{◌<◌, get_or, map, flat_map, All-permutation, ring_id, ring_len, position_of}
use Rattle.slicer_bank.proofs.Common.{Candidate, CanBePut, readers_of}
use Rattle.slicer_bank.proofs.RingGatheringLemmas.{found_by}
use Rattle.slicer_bank.proofs.TurnLemmas.{are_grown, is_turn, lanes_listen, brings, stand_there, are_forward}
use Rattle.slicer_bank.proofs.TurnLemmas.{can_be_put, are_past}
use Rattle.slicer_bank.proofs.ring_turn.make_turn.Goals as goal

pub returns-clause-grown : goal.returns-clause-grown
returns-clause-grown g c = are_grown (ring_id c.args.ring.now) (ring_len c.args.ring.now)
    c.args.lanes.now c.advance_each.new.lanes c.gather.new.lanes c.requires.lanes c.advance_each.ensures.lanes
    c.gather.ensures.lanes c.requires.ready
    c.advance_each.ensures.advanced c.gather.ensures.alike

pub returns-in_err-advance-clause-grown : goal.returns-in_err-advance-clause-grown
returns-in_err-advance-clause-grown g c = are_grown (ring_id c.args.ring.now) (ring_len c.args.ring.now)
    c.args.lanes.now c.advance_each.new.lanes c.gather.new.lanes c.requires.lanes c.advance_each.ensures.lanes
    c.gather.ensures.lanes c.requires.ready
    c.advance_each.ensures.advanced c.gather.ensures.alike

pub returns-clause-turn : goal.returns-clause-turn
returns-clause-turn g c =
    let made = c.in_ok-advance.ensures.gathered in
    is_turn (ring_id c.args.ring.now) (ring_len c.args.ring.now)
    c.args.lanes.now c.advance_each.new.lanes c.gather.new.lanes c.requires.lanes c.advance_each.ensures.lanes
    c.gather.ensures.lanes c.requires.ready
    c.advance_each.ensures.advanced c.gather.ensures.alike made.spent c.in_ok-advance.advance.gaps.items
    c.in_ok-advance.advance.ended made.told made.over

pub returns-clause-listen : goal.returns-clause-listen
returns-clause-listen g c =
    let made = c.in_ok-advance.ensures.gathered in
    lanes_listen (ring_id c.args.ring.now) (ring_len c.args.ring.now)
    c.args.lanes.now c.advance_each.new.lanes c.gather.new.lanes c.requires.lanes c.advance_each.ensures.lanes
    c.gather.ensures.lanes c.requires.ready
    c.advance_each.ensures.advanced c.gather.ensures.alike made.spent

pub returns-clause-heard : goal.returns-clause-heard
returns-clause-heard g c = λ flags h.
    let made = c.in_ok-advance.ensures.gathered in
    brings (ring_id c.args.ring.now) (ring_len c.args.ring.now)
    c.args.lanes.now c.advance_each.new.lanes c.gather.new.lanes c.requires.lanes c.advance_each.ensures.lanes
    c.gather.ensures.lanes c.requires.ready
    c.advance_each.ensures.advanced c.gather.ensures.alike made.spent flags h c.in_ok-advance.advance.positions
    c.in_ok-advance.advance.candidates.items made.stand made.found made.rising

pub returns-clause-positions : goal.returns-clause-positions
returns-clause-positions g c =
    let made = c.in_ok-advance.ensures.gathered in
    stand_there (ring_id c.args.ring.now) (ring_len c.args.ring.now)
    c.args.lanes.now c.advance_each.new.lanes c.gather.new.lanes c.requires.lanes c.advance_each.ensures.lanes
    c.gather.ensures.lanes c.requires.ready
    c.advance_each.ensures.advanced c.gather.ensures.alike made.spent c.in_ok-advance.advance.positions made.stand

pub returns-clause-forward : goal.returns-clause-forward
returns-clause-forward g c =
    let made = c.in_ok-advance.ensures.gathered in
    are_forward (ring_id c.args.ring.now) (ring_len c.args.ring.now)
    c.args.lanes.now c.advance_each.new.lanes c.gather.new.lanes c.requires.lanes c.advance_each.ensures.lanes
    c.gather.ensures.lanes c.requires.ready
    c.advance_each.ensures.advanced c.gather.ensures.alike made.spent

pub returns-clause-bounds : goal.returns-clause-bounds
returns-clause-bounds g c =
    let made = c.in_ok-advance.ensures.gathered in
    All-permutation CanBePut (flat_map found_by c.advance_each.new.lanes)
    c.in_ok-advance.advance.candidates.items made.found
    (can_be_put (ring_id c.args.ring.now) (ring_len c.args.ring.now)
    c.args.lanes.now c.advance_each.new.lanes c.gather.new.lanes c.requires.lanes c.advance_each.ensures.lanes
    c.gather.ensures.lanes c.requires.ready
    c.advance_each.ensures.advanced c.gather.ensures.alike made.spent)

pub returns-clause-past : goal.returns-clause-past
returns-clause-past g c =
    let made = c.in_ok-advance.ensures.gathered in
    All-permutation (λ (item : Candidate). get_or (map position_of (readers_of c.args.lanes.now)) item.offset 0
    < item.end) (flat_map found_by c.advance_each.new.lanes) c.in_ok-advance.advance.candidates.items made.found
    (are_past (ring_id c.args.ring.now) (ring_len c.args.ring.now)
    c.args.lanes.now c.advance_each.new.lanes c.gather.new.lanes c.requires.lanes c.advance_each.ensures.lanes
    c.gather.ensures.lanes c.requires.ready
    c.advance_each.ensures.advanced c.gather.ensures.alike made.spent)
