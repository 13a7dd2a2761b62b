use Rattle.fx25_receiver.proofs.Common.{ℕ, ◌+◌, ◌%◌, List, ℤ, [], ◌∷◌, ◌++◌, drop, get_or, ap, sym, ◌∙◌, subst, refl}
use Rattle.fx25_receiver.proofs.Common.{arith, last_seven}
use Rattle.fx25_receiver.proofs.Common.{Bool, false, EndsFrame, HeldLane, KnowsNumbers, LaneStandsFor, Place, tones_at}
use Rattle.fx25_receiver.specs.Certainty.{certainty}
use Rattle.std.proofs.Common.{pos, set}
use Rattle.offset_slicers.specs.Decision.{tone_of}
use Rattle.fx25_receiver.specs.Ahead.{AreAhead, IsAhead}
use Rattle.fx25_receiver.specs.Held.{Held}
use Rattle.fx25_receiver.proofs.StepLemmas.{ahead_step, early_step, last_of, later_step, waits_as, window_of}
use Rattle.fx25_receiver.proofs.receiver.Fx25Receiver.step.Goals as goal

pub returns-then-self-lt8-clause-taken : goal.returns-then-self-lt8-clause-taken
returns-then-self-lt8-clause-taken c = λ x more before last h.
    let given = before ++ c.args.given.now.items in
    let window : List ℤ = c.args.window.now in
    let sample = last_of window (pos 0) c.told-window in
    let after = subst (λ (held : Held). IsAhead held c.args.waiting.now x ((x ++ drop 7 window) ++ more) given)
    (sym c.self.view_is) h in
    subst (λ (ys : List ℤ). AreAhead c.self.inside.lanes.items (c.self.inside.position + 1) c.self.inside.kept.items
    c.args.waiting.now (x ++ ys) ((x ++ ys) ++ more) given) (sym sample)
    (early_step c.self.inside.lanes.items c.self.inside.position c.self.inside.kept.items c.args.waiting.now x
    (get_or window 7 (pos 0)) more given
    (subst (λ (ys : List ℤ). AreAhead c.self.inside.lanes.items c.self.inside.position c.self.inside.kept.items
    c.args.waiting.now x ((x ++ ys) ++ more) given) sample after) c.if-self-lt8.true)

pub returns-then-not-waiting-place-clause-taken : goal.returns-then-not-waiting-place-clause-taken
returns-then-not-waiting-place-clause-taken c = λ x more before last h.
    let given = before ++ c.args.given.now.items in
    let window : List ℤ = c.args.window.now in
    let sample = last_of window (pos 0) c.told-window in
    let after = subst (λ (held : Held). IsAhead held c.args.waiting.now x ((x ++ drop 7 window) ++ more) given)
    (sym c.self.view_is) h in
    subst (λ (ys : List ℤ). AreAhead c.self.inside.lanes.items (c.self.inside.position + 1) c.self.inside.kept.items
    c.args.waiting.now (x ++ ys) ((x ++ ys) ++ more) given) (sym sample)
    (ahead_step c.self.inside.lanes.items c.self.inside.position c.self.inside.kept.items c.args.waiting.now x
    (get_or window 7 (pos 0)) more given
    (subst (λ (ys : List ℤ). AreAhead c.self.inside.lanes.items c.self.inside.position c.self.inside.kept.items
    c.args.waiting.now x ((x ++ ys) ++ more) given) sample after) ((c.self.inside.position + 1) % 8)
    (omega (arith, c.if-self-lt8.false)) refl
    (waits_as c.args.waiting.now ((c.self.inside.position + 1) % 8) false (omega (arith, c.told-waiting))
    ∙ c.if-not-waiting-place.true))

pub returns-clause-taken : goal.returns-clause-taken
returns-clause-taken c = λ x more before last h.
    let given = before ++ c.args.given.now.items in
    let window : List ℤ = c.args.window.now in
    let first = last_of window (pos 0) c.told-window in
    let place : Place = record { offset = (c.self.inside.position + 1) % 8; end = c.self.inside.position + 1 } in
    let sample : ℤ = get_or window 7 (pos 0) in
    let all = x ++ sample ∷ [] in
    let after = subst (λ (held : Held). IsAhead held c.args.waiting.now x ((x ++ drop 7 window) ++ more) given)
    (sym c.self.view_is) h in
    subst (λ (ys : List ℤ). AreAhead (set c.self.inside.lanes.items ((c.self.inside.position + 1) % 8) c.push_window-plain.new.self)
    (c.self.inside.position + 1) c.hear_blocks.new.kept.items c.args.waiting.now (x ++ ys) ((x ++ ys) ++ more)
    (before ++ c.hear_blocks.new.given.items)) (sym first)
    (later_step c.self.inside.lanes.items c.self.inside.position c.self.inside.kept.items c.args.waiting.now x sample more
    given
    (subst (λ (ys : List ℤ). AreAhead c.self.inside.lanes.items c.self.inside.position c.self.inside.kept.items
    c.args.waiting.now x ((x ++ ys) ++ more) given) first after)
    place c.decide.result (certainty window)
    c.index_mut-lane.result.now c.push_window-plain.new.self c.hear_blocks.new.kept.items
    (before ++ c.hear_blocks.new.given.items) (omega (arith, c.if-self-lt8.false)) refl refl
    c.self.inside.count
    (waits_as c.args.waiting.now ((c.self.inside.position + 1) % 8) false (omega (arith, c.told-waiting))
    ∙ c.if-not-waiting-place.false)
    (c.decide.ensures ∙ ap tone_of (window_of window (last_seven x) (pos 0) c.told-window last))
    (ap certainty (window_of window (last_seven x) (pos 0) c.told-window last))
    (λ tones stands. c.push_window-plain.ensures.stands_for tones (subst (λ (lane : HeldLane). LaneStandsFor lane tones)
    (sym c.index_mut-lane.ensures.value) stands))
    (λ numbers known. c.push_window-plain.ensures.knows numbers
    (subst (λ (lane : HeldLane). KnowsNumbers lane.reader lane.certainties numbers) (sym c.index_mut-lane.ensures.value)
    known))
    (λ at was stands bits_are taken.
    let stood = subst (λ (lane : HeldLane). LaneStandsFor lane (tones_at place.offset x))
    (sym c.index_mut-lane.ensures.value) was in
    c.in_ok-hear_blocks.ensures all before at stands
    (c.in_ok-hear_frame.ensures all before at
    (λ plain. subst (λ (b : List Bool). (octets : List ℕ) × EndsFrame b octets) bits_are
    (c.push_window-plain.ensures.heard (tones_at place.offset x) stood plain))
    (λ octets ends. c.push_window-plain.ensures.frame (tones_at place.offset x) octets stood
    (subst (λ (b : List Bool). EndsFrame b octets) (sym bits_are) ends))
    taken)))
