use Rattle.ring_receiver.proofs.Common.{ring_id, ring_len}
use Rattle.ring_receiver.proofs.ReceiverLemmas.{eight_in_time, eight_stay, eight_turn, none_made}
use Rattle.ring_receiver.proofs.turn.hear_eight.Goals as goal

pub returns-clause-made : goal.returns-clause-made
returns-clause-made g c =
    eight_turn (ring_len c.args.ring.now) c.args.bank.now c.advance.new.self c.args.merger.now
    c.merge_advance.new.merger _ c.in_ok-advance.advance.positions c.in_ok-advance.advance.candidates.items
    c.in_ok-advance.ensures.turn c.in_ok-advance.ensures.listens c.in_ok-advance.ensures.heard
    c.in_ok-advance.ensures.positions c.in_ok-items.ensures.heard c.in_ok-items.ensures.rest
    c.in_ok-items.ensures.marks c.least_of-least.ensures

pub returns-in_err-advance-clause-stay : goal.returns-in_err-advance-clause-stay
returns-in_err-advance-clause-stay g c =
    eight_stay (ring_id c.args.ring.now) c.args.bank.now c.advance.new.self c.args.merger.now c.args.merger.now
    c.advance.ensures.eight c.advance.ensures.ring c.advance.ensures.grown c.advance.ensures.detection

pub returns-in_err-items-clause-stay : goal.returns-in_err-items-clause-stay
returns-in_err-items-clause-stay g c =
    eight_stay (ring_id c.args.ring.now) c.args.bank.now c.advance.new.self c.args.merger.now c.merge_advance.new.merger
    c.advance.ensures.eight c.advance.ensures.ring c.advance.ensures.grown c.advance.ensures.detection

pub returns-clause-stay : goal.returns-clause-stay
returns-clause-stay g c =
    eight_stay (ring_id c.args.ring.now) c.args.bank.now c.advance.new.self c.args.merger.now c.merge_advance.new.merger
    c.advance.ensures.eight c.advance.ensures.ring c.advance.ensures.grown c.advance.ensures.detection

pub returns-in_err-advance-clause-made : goal.returns-in_err-advance-clause-made
returns-in_err-advance-clause-made g c = none_made _ c.from_residual.result _ c.from_residual.ensures.1

pub returns-in_err-items-clause-made : goal.returns-in_err-items-clause-made
returns-in_err-items-clause-made g c =
    none_made _ c.from_residual-in_err-items.result _ c.from_residual-in_err-items.ensures.1

pub merge_advance-requires-clause-in_time : goal.merge_advance-requires-clause-in_time
merge_advance-requires-clause-in_time g c =
    eight_in_time c.args.bank.now c.args.merger.now c.in_ok-advance.advance.candidates.items c.requires.step
    c.in_ok-advance.ensures.past
