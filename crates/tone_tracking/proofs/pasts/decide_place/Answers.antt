use Rattle.tone_tracking.proofs.Common.{sym, ◌∙◌}
use Rattle.tone_tracking.specs.declared.reach.Reach.TheVariants.{Alone, Near, Far}
use Rattle.tone_tracking.specs.Slots.{packed}
use Rattle.tone_tracking.proofs.PastLemmas.{past_alone}
use Rattle.tone_tracking.proofs.SlotLemmas.{slot_past, slot_tone}
use Rattle.tone_tracking.proofs.pasts.decide_place.Goals as goal

pub returns-clause-pasts : goal.returns-clause-pasts
returns-clause-pasts c = λ windows place first second third h. record {
  near = slot_past Near windows place c.args.pasts.now.near c.args.now.now c.args.next.now c.args.later.now
      c.decide-near.result h.near first second third c.decide-near.ensures c.pass-pasts.result
      c.pass-pasts.ensures.past;
  far = slot_past Far windows place c.args.pasts.now.far c.args.now.now c.args.next.now c.args.later.now
      c.decide-far.result h.far first second third c.decide-far.ensures c.pass-pasts-2.result
      c.pass-pasts-2.ensures.past;
}

pub returns-clause-tones : goal.returns-clause-tones
returns-clause-tones c = λ windows place first second third h.
    let alone = slot_tone Alone windows place _ c.args.now.now c.args.next.now c.args.later.now c.decide-alone.result
    (sym (past_alone windows place)) first second third c.decide-alone.ensures in
    let near = slot_tone Near windows place c.args.pasts.now.near c.args.now.now c.args.next.now c.args.later.now
    c.decide-near.result h.near first second third c.decide-near.ensures in
    let far = slot_tone Far windows place c.args.pasts.now.far c.args.now.now c.args.next.now c.args.later.now
    c.decide-far.result h.far first second third c.decide-far.ensures in
    c.new.ensures ∙ (λ i. packed (alone i) (near i) (far i))
