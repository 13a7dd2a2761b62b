-- A turn of a receiver that is not spent is one of its lanes.
use Rattle.fx25_ring.proofs.Common.{◌≡◌, ◌≤◌, false, [], ◌∷◌, subst, sym, All, HasFrameLength, ring_len, answers_of}
use Rattle.fx25_ring.proofs.Common.{AreDueInBlocks, least_position}
use Rattle.fx25_ring.specs.Held.{HeldReceiver, BlocksHeard, BlockLanesListen, block_answers, receiver_of}
use Rattle.fx25_ring.specs.Held.{sensitive_of_blocks}
use Rattle.fx25_ring.proofs.receiver.Fx25RingReceiver.advance.Goals as goal

pub returns-clause-due : goal.returns-clause-due
returns-clause-due c =
    let len = ring_len c.args.ring.now in
    let P : HeldReceiver → Type 0 = λ now. BlocksHeard len now
    → AreDueInBlocks (sensitive_of_blocks now) c.in_ok-heard.heard.ended (block_answers len now)
    (answers_of len c.hear.new.reader) c.in_ok-heard.heard.items.items in
    subst P c.self.view_is (λ h. c.in_ok-heard.ensures.made.due
    (subst (λ b. BlocksHeard len (receiver_of c.self.inside.reader c.self.inside.lanes b)) c.if-self.false h))

pub returns-clause-lengths : goal.returns-clause-lengths
returns-clause-lengths c =
    let len = ring_len c.args.ring.now in
    let P : HeldReceiver → Type 0 = λ now. BlocksHeard len now
    → All (λ item. HasFrameLength item.octets) c.in_ok-heard.heard.items.items in
    subst P c.self.view_is (λ h. c.in_ok-heard.ensures.made.lengths
    (subst (λ b. BlocksHeard len (receiver_of c.self.inside.reader c.self.inside.lanes b)) c.if-self.false h))

pub returns-clause-hears : goal.returns-clause-hears
returns-clause-hears c = λ ended.
    let len = ring_len c.args.ring.now in
    let P : HeldReceiver → Type 0 = λ now. BlocksHeard len now
    → BlocksHeard len (receiver_of c.hear.new.reader c.hear.new.lanes c.in_ok-heard.heard.ended) in
    subst P c.self.view_is (λ h. subst (λ b. BlocksHeard len (receiver_of c.hear.new.reader c.hear.new.lanes b)) (sym ended)
    (c.in_ok-heard.ensures.made.hears ended
    (subst (λ b. BlocksHeard len (receiver_of c.self.inside.reader c.self.inside.lanes b)) c.if-self.false h)))

pub returns-clause-listens : goal.returns-clause-listens
returns-clause-listens c =
    let len = ring_len c.args.ring.now in
    let P : HeldReceiver → Type 0 = λ now. BlockLanesListen len now
    → BlockLanesListen len (receiver_of c.hear.new.reader c.hear.new.lanes false) in
    subst P c.self.view_is (λ h. c.in_ok-heard.ensures.made.listens h)

pub returns-clause-least : goal.returns-clause-least
returns-clause-least c =
    let len = ring_len c.args.ring.now in
    let P : HeldReceiver → Type 0 = λ now. BlocksHeard len now
    → c.in_ok-heard.heard.least ≡ least_position (answers_of len c.hear.new.reader ∷ []) in
    subst P c.self.view_is (λ h. c.in_ok-heard.ensures.made.least
    (subst (λ b. BlocksHeard len (receiver_of c.self.inside.reader c.self.inside.lanes b)) c.if-self.false h))

pub returns-clause-forward : goal.returns-clause-forward
returns-clause-forward c =
    let len = ring_len c.args.ring.now in
    let P : HeldReceiver → Type 0 = λ now. BlocksHeard len now
    → least_position (block_answers len now ∷ []) ≤ c.in_ok-heard.heard.least in
    subst P c.self.view_is (λ h. c.in_ok-heard.ensures.made.forward
    (subst (λ b. BlocksHeard len (receiver_of c.self.inside.reader c.self.inside.lanes b)) c.if-self.false h))
