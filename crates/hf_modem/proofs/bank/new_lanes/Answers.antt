use Rattle.hf_modem.proofs.Common.{[], ◌+◌, List, length, ap, sym, subst, ◌∙◌, arith, All, length_push, HeldToneLane}
use Rattle.hf_modem.proofs.Common.{ToneLaneStandsFor}
use Rattle.std.proofs.lemmas.List.Elements.{All-push}
use Rattle.hf_modem.specs.Held.{AsksFor}
use Rattle.hf_modem.proofs.LaneLemmas.{stand_fresh}
use Rattle.hf_modem.proofs.bank.new_lanes.Goals as goal

pub loop-preserved : goal.loop-preserved
loop-preserved c =
    let lanes : List HeldToneLane = c.loop.lanes.items in
    let Fresh : HeldToneLane → Type 0 = λ lane. ToneLaneStandsFor lane [] in
    record {
      count = ap length c.in_ok-push.ensures.items ∙ length_push lanes c.listening.result
          ∙ ap (λ n. n + 1) c.loop.invariant.count;
      fresh = subst (λ (now : List HeldToneLane). All Fresh now) (sym c.in_ok-push.ensures.items)
          (All-push Fresh lanes c.listening.result c.loop.invariant.fresh c.listening.ensures.stands_for);
      asks = subst (λ (now : List HeldToneLane). All (AsksFor c.args.flags) now) (sym c.in_ok-push.ensures.items)
          (All-push (AsksFor c.args.flags) lanes c.listening.result c.loop.invariant.asks c.listening.ensures.asks);
    }

pub returns-clause-stand_for : goal.returns-clause-stand_for
returns-clause-stand_for c =
    let past = c.loop-test.false in
    let most = c.loop.auto.counter-end in
    let many = c.loop.invariant.count in
    stand_fresh c.loop.lanes.items (omega arith) c.loop.invariant.fresh
