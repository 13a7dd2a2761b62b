use Rattle.tone_tracking.proofs.Common.{◌<◌, List, length, arith, subst, ◌∙◌, length-set}
use Rattle.std.proofs.lemmas.List.{get_or_default}
use Rattle.tone_tracking.specs.Slots.{Decides, HeldSlot}
use Rattle.tone_tracking.proofs.SlotLemmas.{slots_more, slots_rest}
use Rattle.tone_tracking.proofs.deciding.InTurnDeciding.decide.Goals as goal

pub loop-index-preserved : goal.loop-index-preserved
loop-index-preserved c =
    let olds : List HeldSlot = c.args.slots.now in
    let slots : List HeldSlot = c.loop-index.slots in
    let n = c.loop-index.index in
    let before = c.loop-index.invariant in
    let test = c.loop-index-test.true in
    let size = before.length in
    let inside : n < length slots = omega arith in
    let new : HeldSlot = c.decide.new.self in
    let was : HeldSlot = c.index-slots-index.result in
    record {
      length = omega (arith, length-set slots n new);
      done = slots_more olds slots n new inside (λ k. Decides c.args.levels.now) before.done (λ d.
          subst (λ (s : HeldSlot). Decides c.args.levels.now s new)
          (get_or_default slots n was d inside ∙ before.rest n d (omega arith)) c.decide.ensures);
      rest = slots_rest olds slots n new inside before.rest;
    }
