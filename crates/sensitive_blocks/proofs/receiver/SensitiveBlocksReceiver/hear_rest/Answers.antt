use Rattle.sensitive_blocks.proofs.Common.{◌≡◌, ◌∙◌, arith, refl, sym, ap, take, drop}
use Rattle.sensitive_blocks.specs.Held.{HeldReceiver}
use Rattle.sensitive_blocks.proofs.ReceiverLemmas.{ended_more, ended_none}
use Rattle.sensitive_blocks.proofs.receiver.SensitiveBlocksReceiver.hear_rest.Goals as goal

pub loop-i-init : goal.loop-i-init
loop-i-init c =
    let position = c.position-position.ensures in
    let same : c.args.self.now.follower.position ≡ c.self.inside.follower.position =
    ap (λ (held : HeldReceiver). held.follower.position) (sym c.self.view_is) in
    let first = c.saturating_sub-first.ensures in
    record {
      ended = ended_none c.args.self.now c.args.given.now.items _ c.requires.next (omega arith);
      least = omega arith;
    }

pub loop-i-preserved : goal.loop-i-preserved
loop-i-preserved c =
    let i = c.loop-i.i in
    let test = c.loop-i-test.true in
    let least = c.loop-i.invariant.least in
    let position = c.position-position.ensures in
    let same : c.args.self.now.follower.position ≡ c.self.inside.follower.position =
    ap (λ (held : HeldReceiver). held.follower.position) (sym c.self.view_is) in
    let back = c.saturating_sub-back.ensures in
    record {
      ended = ended_more c.args.self.now c.loop-i.self c.hear_next.new.self c.args.given.now.items c.loop-i.given.items
          c.hear_next.new.given.items i c.saturating_sub-back.result c.window_at-window.result _ c.loop-i.invariant.ended
          (omega arith) (omega arith) (omega arith) refl
          (c.window_at-window.ensures ∙ ap (λ (held : HeldReceiver). take 8 (drop i held.recent)) c.self.view_is)
          c.in_ok-hear_next.ensures.taken c.hear_next.ensures.next c.hear_next.ensures.follower c.hear_next.ensures.recent
          c.hear_next.ensures.spent;
      least = omega arith;
    }

pub returns-clause-taken : goal.returns-clause-taken
returns-clause-taken c = c.loop-i.invariant.ended.taken

pub returns-clause-next : goal.returns-clause-next
returns-clause-next c =
    let past = c.loop-i-test.false in
    let most = c.loop-i.auto.i-end in
    let next = c.loop-i.invariant.ended.next in
    let all : c.loop-i.i ≡ 33 = omega arith in
    omega arith
