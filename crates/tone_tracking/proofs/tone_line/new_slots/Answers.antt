use Rattle.tone_tracking.proofs.Common.{◌+◌, List, length, ap, sym, subst, ◌∙◌, All}
use Rattle.std.proofs.lemmas.List.{length_push}
use Rattle.std.proofs.lemmas.List.Elements.{All-push}
use Rattle.tone_tracking.specs.Slots.{HasDecidedNone, HeldSlot}
use Rattle.tone_tracking.proofs.tone_line.new_slots.Goals as goal

pub loop-preserved : goal.loop-preserved
loop-preserved c =
    let slots : List HeldSlot = c.loop.slots.items in
    record {
      count = ap length c.in_ok-push.ensures.items ∙ length_push slots c.new.result
          ∙ ap (λ n. n + 1) c.loop.invariant.count;
      fresh = subst (λ (now : List HeldSlot). All HasDecidedNone now) (sym c.in_ok-push.ensures.items)
          (All-push HasDecidedNone slots c.new.result c.loop.invariant.fresh c.new.ensures);
    }
