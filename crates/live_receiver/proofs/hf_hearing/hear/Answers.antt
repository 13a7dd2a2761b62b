use Rattle.live_receiver.proofs.Common.{position_of, refl, ring_len, leads_up}
use Rattle.fx25_ring.proofs.OneReader.{none_made}
use Rattle.live_receiver.proofs.ReceiverLemmas.{fits, in_time, makes, marks_low, marks_many}
use Rattle.live_receiver.proofs.hf_hearing.hear.Goals as goal

pub put_all-requires-clause-items : goal.put_all-requires-clause-items
put_all-requires-clause-items c =
    fits c.args.reader.now c.args.lanes.now c.args.merger.now c.in_ok-turn.turn.items.items c.requires.step
    c.in_ok-turn.ensures.comes

pub put_all-requires-clause-in_time : goal.put_all-requires-clause-in_time
put_all-requires-clause-in_time c =
    in_time c.args.reader.now c.args.lanes.now c.args.merger.now c.in_ok-turn.turn.items.items c.requires.step
    c.in_ok-turn.ensures.comes

pub settle-requires-clause-lanes : goal.settle-requires-clause-lanes
settle-requires-clause-lanes c =
    marks_many c.args.reader.now c.args.lanes.now c.read_on.new.lanes c.args.merger.now c.put_all.new.merger c.requires.step
    c.put_all.ensures.marks c.read_on.ensures.sensitive

pub settle-requires-clause-marks : goal.settle-requires-clause-marks
settle-requires-clause-marks c =
    let on = c.in_ok-turn.ensures.made.on in
    marks_low c.args.reader.now c.read_on.new.reader c.args.lanes.now c.read_on.new.lanes c.args.merger.now
    c.put_all.new.merger c.at-position.result c.requires.step c.put_all.ensures.marks
    (leads_up (position_of c.args.reader.now) c.in_ok-turn.ensures.made.answers (position_of c.read_on.new.reader)
    on.forward) c.read_on.ensures.sensitive c.at-position.ensures

pub returns-clause-made : goal.returns-clause-made
returns-clause-made c =
    let told = c.in_ok-turn.ensures in
    makes (ring_len c.args.ring.now) c.args.reader.now c.read_on.new.reader c.args.lanes.now c.read_on.new.lanes
    c.args.merger.now c.put_all.new.merger c.settle.new.merger c.in_ok-turn.turn _ c.at-position.result told.made told.comes
    (λ marks. record { at = told.place; room = told.room; banks = told.step; marks = marks })
    c.read_on.ensures.sensitive c.in_ok-put_all.ensures.put c.at-position.ensures c.at-position.type_inv refl refl refl
    c.in_ok-items.ensures.settled c.in_ok-items.ensures.rest c.in_ok-items.ensures.marks

pub returns-in_err-turn-clause-made : goal.returns-in_err-turn-clause-made
returns-in_err-turn-clause-made c = none_made _ c.from_residual.result _ c.from_residual.ensures.1

pub returns-in_err-put_all-clause-made : goal.returns-in_err-put_all-clause-made
returns-in_err-put_all-clause-made c =
    none_made _ c.from_residual-in_err-put_all.result _ c.from_residual-in_err-put_all.ensures.1

pub returns-in_err-items-clause-made : goal.returns-in_err-items-clause-made
returns-in_err-items-clause-made c =
    none_made _ c.from_residual-in_err-items.result _ c.from_residual-in_err-items.ensures.1
