use Rattle.sensitive_receiver.proofs.Common.{◌≡◌, ◌+◌, ℤ, List, subst, on_ok_weaker, Near, tones}
use Rattle.sensitive_receiver.specs.FastLane.{FastAdds, FastHasRead, HeldFast}
use Rattle.sensitive_receiver.proofs.FastLemmas.{fast_found, fast_nothing, fast_of_parts, fast_passed, fast_taken}
use Rattle.sensitive_receiver.proofs.fast_bank.FastBank.take.Goals as goal

pub returns-then-not-reads-clause-read : goal.returns-then-not-reads-clause-read
returns-then-not-reads-clause-read c =
    let s = c.self.inside in
    let ring = c.push.new.self in
    let clock = c.step-reads.new.self in
    let P : HeldFast → Type 0 = λ old. (x : List ℤ) → c.args.tone ≡ tones Near x old.ring.place → FastHasRead old x
    → FastHasRead (fast_of_parts ring clock s.lane) x in
    subst P c.self.view_is (λ x tone_here h.
    fast_passed s.ring ring s.clock clock s.lane c.args.tone c.step-reads.result s.place x h
    c.self.invariant.1 tone_here c.push.ensures.stands_for c.push.ensures.reach c.push.ensures.place c.self.invariant.2
    c.step-reads.ensures.next c.step-reads.ensures.reading c.if-not-reads.true)

pub returns-then-not-reads-clause-found : goal.returns-then-not-reads-clause-found
returns-then-not-reads-clause-found c =
    let s = c.self.inside in
    let found = c.args.found.now.items in
    let P : HeldFast → Type 0 = λ old. (x : List ℤ) → c.args.tone ≡ tones Near x old.ring.place → FastHasRead old x
    → FastAdds old.ring.place (old.ring.place + 1) x found found in
    subst P c.self.view_is (λ x tone_here h.
    fast_nothing s.ring c.push.new.self s.clock c.step-reads.new.self s.lane c.args.tone c.step-reads.result s.place x h
    c.self.invariant.1 tone_here c.push.ensures.stands_for c.push.ensures.reach c.push.ensures.place c.self.invariant.2
    c.step-reads.ensures.next c.step-reads.ensures.reading found c.if-not-reads.true)

pub returns-clause-read : goal.returns-clause-read
returns-clause-read c =
    let s = c.self.inside in
    let ring = c.push.new.self in
    let clock = c.step-reads.new.self in
    let lane = c.hear.new.lane in
    let P : HeldFast → Type 0 = λ old. (x : List ℤ) → c.args.tone ≡ tones Near x old.ring.place → FastHasRead old x
    → FastHasRead (fast_of_parts ring clock lane) x in
    on_ok_weaker c.hear.result (λ found. subst P c.self.view_is (λ x tone_here h.
    fast_taken s.ring ring s.clock clock s.lane c.args.tone c.step-reads.result s.place x h
    c.self.invariant.1 tone_here c.push.ensures.stands_for c.push.ensures.reach c.push.ensures.place c.self.invariant.2
    c.step-reads.ensures.next c.step-reads.ensures.reading lane c.if-not-reads.false (c.hear.ensures.read x)))
    c.hear.ensures.found

pub returns-clause-found : goal.returns-clause-found
returns-clause-found c =
    let s = c.self.inside in
    let found = c.args.found.now.items in
    let after = c.hear.new.found.items in
    let P : HeldFast → Type 0 = λ old. (x : List ℤ) → c.args.tone ≡ tones Near x old.ring.place → FastHasRead old x
    → FastAdds old.ring.place (old.ring.place + 1) x found after in
    on_ok_weaker c.hear.result (λ adds. subst P c.self.view_is (λ x tone_here h.
    fast_found s.ring c.push.new.self s.clock c.step-reads.new.self s.lane c.args.tone c.step-reads.result s.place x h
    c.self.invariant.1 tone_here c.push.ensures.stands_for c.push.ensures.reach c.push.ensures.place c.self.invariant.2
    c.step-reads.ensures.next c.step-reads.ensures.reading found after c.if-not-reads.false (adds x)))
    c.hear.ensures.found
