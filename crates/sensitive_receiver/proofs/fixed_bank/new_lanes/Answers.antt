use Rattle.sensitive_receiver.proofs.Common.{[], ◌+◌, List, length, ap, sym, subst, ◌∙◌, All, length_push}
use Rattle.std.proofs.lemmas.List.Elements.{All-push}
use Rattle.slicer_bank.specs.ToneLanes.{HeldToneLane, ToneLaneStandsFor}
use Rattle.sensitive_receiver.proofs.fixed_bank.new_lanes.Goals as goal

pub loop-preserved : goal.loop-preserved
loop-preserved c =
    let lanes : List HeldToneLane = c.loop.lanes.items in
    let Fresh : HeldToneLane → Type 0 = λ lane. ToneLaneStandsFor lane [] in
    record {
      count = ap length c.in_ok-push.ensures.items ∙ length_push lanes c.new.result
          ∙ ap (λ n. n + 1) c.loop.invariant.count;
      fresh = subst (λ (now : List HeldToneLane). All Fresh now) (sym c.in_ok-push.ensures.items)
          (All-push Fresh lanes c.new.result c.loop.invariant.fresh c.new.ensures.stands_for);
    }
