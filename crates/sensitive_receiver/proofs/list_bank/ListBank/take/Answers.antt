use Rattle.sensitive_receiver.proofs.Common.{◌≡◌, ◌+◌, ◌++◌, ℤ, List, length, take, drop, ap, sym, subst, ◌∙◌, arith, on_ok_weaker}
use Rattle.sensitive_receiver.proofs.Common.{tones, AddsIn, HasRead, HeldLane, HeldList, LanesHear}
use Rattle.sensitive_receiver.proofs.ListLemmas.{found_place, given_back, list_of_parts, taken_place}
use Rattle.sensitive_receiver.proofs.list_bank.ListBank.take.Goals as goal

pub returns-clause-read : goal.returns-clause-read
returns-clause-read c =
    let s = c.self.inside in
    let ring = c.push.new.self in
    let found = c.args.found.now.items in
    let after = c.hear_slow.new.found.items in
    let new : List HeldLane = c.hear_slow.new.lanes in
    let full : s.lanes.len ≡ length new = sym (c.hear_slow.auto.lanes ∙ c.deref_mut.ensures.len) in
    let lent : List HeldLane = take s.lanes.len (new ++ drop (length new) s.lanes.items) in
    let back : lent ≡ new = given_back s.lanes.len new s.lanes.items full in
    let P : HeldList → Type 0 = λ old. (x : List ℤ)
    → c.args.tone ≡ tones old.ring.reach x old.ring.place
    → HasRead old x → HasRead (list_of_parts ring c.step.new.self lent) x in
    on_ok_weaker c.hear_slow.result (λ hear. subst P c.self.view_is (λ x tone_here h.
    subst (λ ls. HasRead (list_of_parts ring c.step.new.self ls) x) (sym back)
    (taken_place s.ring ring s.clock c.step.new.self s.lanes.items new
    c.args.tone c.step.result s.place x h
    c.self.invariant.1 tone_here c.push.ensures.stands_for c.push.ensures.reach c.push.ensures.place c.self.invariant.3
    c.step.ensures.next c.step.ensures.reading found after
    (subst (λ ls. LanesHear 0 3 ring (record { place = s.place; reads = c.step.result }) ls new found after)
    c.deref_mut.ensures.value hear))))
    c.hear_slow.ensures.hear

pub returns-clause-found : goal.returns-clause-found
returns-clause-found c =
    let s = c.self.inside in
    let ring = c.push.new.self in
    let found = c.args.found.now.items in
    let after = c.hear_slow.new.found.items in
    let new : List HeldLane = c.hear_slow.new.lanes in
    let P : HeldList → Type 0 = λ old. (x : List ℤ)
    → c.args.tone ≡ tones old.ring.reach x old.ring.place
    → HasRead old x → AddsIn old.ring.reach old.ring.place (old.ring.place + 1) x found after in
    on_ok_weaker c.hear_slow.result (λ hear. subst P c.self.view_is (λ x tone_here h.
    found_place s.ring ring s.clock c.step.new.self s.lanes.items new
    c.args.tone c.step.result s.place x h
    c.self.invariant.1 tone_here c.push.ensures.stands_for c.push.ensures.reach c.push.ensures.place c.self.invariant.3
    c.step.ensures.next c.step.ensures.reading found after
    (subst (λ ls. LanesHear 0 3 ring (record { place = s.place; reads = c.step.result }) ls new found after)
    c.deref_mut.ensures.value hear)))
    c.hear_slow.ensures.hear

pub returns-clause-bounds : goal.returns-clause-bounds
returns-clause-bounds c = λ low under.
    let s = c.self.inside in
    let same : c.args.self.now.ring.place ≡ s.place = sym (ap (λ (v : HeldList). v.ring.place) c.self.view_is)
    ∙ c.self.invariant.1 in
    c.hear_slow.ensures.bounds low (omega arith)
