use Rattle.ring_receiver.proofs.Common.{◌≡◌, ◌≤◌, ℕ, List, Bool, ◌&&◌, [], sym, ap, subst, ◌∙◌, min, append-nil}
use Rattle.ring_receiver.proofs.Common.{ring_id, ring_len, position_of, reads_of}
use Rattle.slicer_bank.specs.RingLanes.{positions_in as positions_of_bank}
use Rattle.slicer_bank.specs.RingTurns.{AreForward}
use Rattle.ring_receiver.proofs.ReceiverLemmas.{all_stay, all_turn, marks_added, marks_many, marks_eight}
use Rattle.ring_receiver.proofs.ReceiverLemmas.{added_can, added_in_time, eight_in_time_of_all, none_made}
use Rattle.ring_receiver.proofs.AddedLemmas.{goes_forward}
use Rattle.ring_receiver.proofs.turn.hear_all.Goals.{then-advance, else-advance}
use Rattle.ring_receiver.proofs.turn.hear_all.Goals as goal

pub returns-in_err-advance-clause-stay : goal.returns-in_err-advance-clause-stay
returns-in_err-advance-clause-stay g c =
    all_stay (ring_id c.args.ring.now) c.args.bank.now c.advance.new.self c.args.added.now c.args.added.now
    c.args.merger.now c.args.merger.now [] c.requires.eight c.advance.ensures.eight c.advance.ensures.ring
    c.requires.ring c.advance.ensures.grown (sym (append-nil (reads_of c.args.added.now.reader)))
    c.advance.ensures.detection

pub returns-in_err-turn-clause-stay : goal.returns-in_err-turn-clause-stay
returns-in_err-turn-clause-stay g c =
    all_stay (ring_id c.args.ring.now) c.args.bank.now c.advance.new.self c.args.added.now c.advance-2.new.self
    c.args.merger.now c.args.merger.now c.advance-2.ensures.grown.0 c.requires.eight c.advance.ensures.eight
    c.advance.ensures.ring (c.advance-2.ensures.ring ∙ c.requires.ring) c.advance.ensures.grown
    c.advance-2.ensures.grown.1 c.advance.ensures.detection

pub returns-in_err-append-clause-stay : goal.returns-in_err-append-clause-stay
returns-in_err-append-clause-stay g c =
    all_stay (ring_id c.args.ring.now) c.args.bank.now c.advance.new.self c.args.added.now c.advance-2.new.self
    c.args.merger.now c.args.merger.now c.advance-2.ensures.grown.0 c.requires.eight c.advance.ensures.eight
    c.advance.ensures.ring (c.advance-2.ensures.ring ∙ c.requires.ring) c.advance.ensures.grown
    c.advance-2.ensures.grown.1 c.advance.ensures.detection

pub merge_all-requires-clause-position : goal.merge_all-requires-clause-position
merge_all-requires-clause-position g c = λ lane low most.
    marks_added c.args.bank.now c.args.added.now c.args.merger.now c.at-position.result c.requires.eight
    c.requires.step
    (subst (λ p. position_of c.args.added.now.reader ≤ p) (sym c.at-position.ensures)
    (goes_forward (ring_len c.args.ring.now) c.args.added.now c.advance-2.new.self c.in_ok-turn.turn
    c.in_ok-turn.ensures.made)) lane low most

pub returns-in_err-items-clause-stay : goal.returns-in_err-items-clause-stay
returns-in_err-items-clause-stay g c =
    all_stay (ring_id c.args.ring.now) c.args.bank.now c.advance.new.self c.args.added.now c.advance-2.new.self
    c.args.merger.now c.merge_all.new.merger c.advance-2.ensures.grown.0 c.requires.eight c.advance.ensures.eight
    c.advance.ensures.ring (c.advance-2.ensures.ring ∙ c.requires.ring) c.advance.ensures.grown
    c.advance-2.ensures.grown.1 c.advance.ensures.detection

pub returns-clause-stay : goal.returns-clause-stay
returns-clause-stay g c =
    all_stay (ring_id c.args.ring.now) c.args.bank.now c.advance.new.self c.args.added.now c.advance-2.new.self
    c.args.merger.now c.merge_all.new.merger c.advance-2.ensures.grown.0 c.requires.eight c.advance.ensures.eight
    c.advance.ensures.ring (c.advance-2.ensures.ring ∙ c.requires.ring) c.advance.ensures.grown
    c.advance-2.ensures.grown.1 c.advance.ensures.detection

pub returns-clause-made : goal.returns-clause-made
returns-clause-made g c =
    let first : Bool = c.in_ok-advance.advance.ended in
    let last : Bool = c.in_ok-turn.turn.ended in
    let over : c.if-advance.ended ≡ (first && last) = elim c.if-advance.branch [
      | then-advance w ↦ w.ended-is ∙ ap (λ (b : Bool). b && last) (sym w.if-advance.true)
      | else-advance w ↦ w.ended-is ∙ w.if-advance.false ∙ ap (λ (b : Bool). b && last) (sym w.if-advance.false)
    ] in
    all_turn (ring_len c.args.ring.now) c.args.bank.now c.advance.new.self c.args.added.now c.advance-2.new.self
    c.args.merger.now c.merge_all.new.merger _ c.in_ok-advance.advance.positions c.at-position.result
    c.in_ok-advance.advance.candidates.items c.in_ok-advance.advance.gaps.items first c.in_ok-turn.turn
    c.requires.eight c.advance.ensures.eight c.in_ok-advance.ensures.turn c.in_ok-advance.ensures.listens
    c.in_ok-advance.ensures.heard c.in_ok-advance.ensures.positions c.in_ok-turn.ensures.made c.at-position.ensures
    c.in_ok-turn.ensures.comes c.in_ok-turn.ensures.at c.in_ok-turn.ensures.room over c.in_ok-append.ensures.items c.in_ok-items.ensures.heard c.in_ok-items.ensures.rest
    c.in_ok-items.ensures.marks
    (c.min-least.ensures ∙ ap (λ p. min p c.at-position.result) c.least_of.ensures)

pub returns-in_err-advance-clause-made : goal.returns-in_err-advance-clause-made
returns-in_err-advance-clause-made g c = none_made _ c.from_residual.result _ c.from_residual.ensures.1

pub returns-in_err-turn-clause-made : goal.returns-in_err-turn-clause-made
returns-in_err-turn-clause-made g c =
    none_made _ c.from_residual-in_err-turn.result _ c.from_residual-in_err-turn.ensures.1

pub returns-in_err-append-clause-made : goal.returns-in_err-append-clause-made
returns-in_err-append-clause-made g c =
    none_made _ c.from_residual-in_err-append.result _ c.from_residual-in_err-append.ensures.1

pub returns-in_err-items-clause-made : goal.returns-in_err-items-clause-made
returns-in_err-items-clause-made g c =
    none_made _ c.from_residual-in_err-items.result _ c.from_residual-in_err-items.ensures.1

pub merge_all-requires-clause-lanes : goal.merge_all-requires-clause-lanes
merge_all-requires-clause-lanes g c =
    marks_many c.args.bank.now c.args.added.now c.args.merger.now c.requires.eight c.requires.step

pub merge_all-requires-clause-positions : goal.merge_all-requires-clause-positions
merge_all-requires-clause-positions g c =
    marks_eight c.args.bank.now c.args.added.now c.args.merger.now c.in_ok-advance.advance.positions c.requires.eight
    c.requires.step
    (subst (λ (p : List ℕ). AreForward (positions_of_bank c.args.bank.now) p) (sym c.in_ok-advance.ensures.positions)
    c.in_ok-advance.ensures.forward)

pub merge_all-requires-clause-eight : goal.merge_all-requires-clause-eight
merge_all-requires-clause-eight g c = c.in_ok-advance.ensures.bounds

pub merge_all-requires-clause-added : goal.merge_all-requires-clause-added
merge_all-requires-clause-added g c = added_can _ c.in_ok-turn.turn.items.items c.in_ok-turn.ensures.comes

pub merge_all-requires-clause-eight_in_time : goal.merge_all-requires-clause-eight_in_time
merge_all-requires-clause-eight_in_time g c =
    eight_in_time_of_all c.args.bank.now c.args.added.now c.args.merger.now c.in_ok-advance.advance.candidates.items
    c.requires.eight c.requires.step c.in_ok-advance.ensures.bounds c.in_ok-advance.ensures.past

pub merge_all-requires-clause-added_in_time : goal.merge_all-requires-clause-added_in_time
merge_all-requires-clause-added_in_time g c =
    added_in_time c.args.bank.now c.args.added.now c.args.merger.now c.in_ok-turn.turn.items.items
    c.requires.eight c.requires.step c.in_ok-turn.ensures.comes
