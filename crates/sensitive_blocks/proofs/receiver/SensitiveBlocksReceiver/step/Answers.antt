use Rattle.sensitive_blocks.proofs.Common.{◌≡◌, ◌+◌, ◌-◌, ◌++◌, ◌∙◌, ◌<◌, ◌≤◌, pos, get_or, length, ap, sym, subst}
use Rattle.sensitive_blocks.proofs.Common.{arith, window_to}
use Rattle.std.proofs.lemmas.Int.{to_z-of_z}
use Rattle.std.proofs.lemmas.Result.{on_ok_weaker}
use mir.Syntax.{w16}
use Rattle.sensitive_blocks.specs.Held.{HasTaken, HeldReceiver, known_at}
use Rattle.sensitive_blocks.proofs.ReceiverLemmas.{step_back}
use Rattle.sensitive_blocks.proofs.receiver.SensitiveBlocksReceiver.step.Goals as goal

pub returns-then-position-lt-BEHIND-clause-taken : goal.returns-then-position-lt-BEHIND-clause-taken
returns-then-position-lt-BEHIND-clause-taken c = λ x before h inside is window.
    let given = before ++ c.args.given.now.items in
    let here = subst (λ (held : HeldReceiver). HasTaken held x given) (sym c.self.view_is) h in
    let within = subst (λ (held : HeldReceiver). held.follower.position < length x) (sym c.self.view_is) inside in
    let sample_is = subst (λ (held : HeldReceiver). c.args.sample ≡ get_or x held.follower.position (pos 0))
    (sym c.self.view_is) is in
    record {
      follower = c.push-known.ensures.has_taken x here.follower within
          (to_z-of_z w16 c.args.sample c.ranges.sample ∙ sample_is);
      readings = here.readings;
      lanes = here.lanes;
      has_heard = here.has_heard;
    }

pub returns-clause-taken : goal.returns-clause-taken
returns-clause-taken c =
    let s = c.self.inside in
    let late = c.if-position-lt-BEHIND.false in
    let position = c.position.ensures in
    let pushed = c.push-known.ensures.position in
    let next : s.next ≡ s.follower.position - 32 =
    subst (λ (held : HeldReceiver). held.next ≡ held.follower.position - 32) (sym c.self.view_is) c.requires.next in
    let enough : 32 ≤ s.follower.position = omega arith in
    on_ok_weaker c.hear_next.result (λ taken x before h inside is window.
    let given = before ++ c.args.given.now.items in
    let here = subst (λ (held : HeldReceiver). HasTaken held x given) (sym c.self.view_is) h in
    let within = subst (λ (held : HeldReceiver). held.follower.position < length x) (sym c.self.view_is) inside in
    let sample_is = subst (λ (held : HeldReceiver). c.args.sample ≡ get_or x held.follower.position (pos 0))
    (sym c.self.view_is) is in
    let window_is = subst (λ (held : HeldReceiver). 32 ≤ held.follower.position
    → c.args.window ≡ window_to x (held.follower.position - 32)) (sym c.self.view_is) window in
    let same = to_z-of_z w16 c.args.sample c.ranges.sample ∙ sample_is in
    let sum : s.follower.position - 30 ≡ s.next + 2 = omega arith in
    taken x before
    (record {
      follower = c.push-known.ensures.has_taken x here.follower within same;
      readings = here.readings;
      lanes = here.lanes;
      has_heard = here.has_heard;
    })
    (omega arith)
    (c.push-known.ensures.known x here.follower within same ∙ ap (known_at x) sum)
    (window_is enough ∙ ap (window_to x) (sym next))
    (λ lane added small read.
    let told = step_back x s.follower.position s.next next enough lane added small read in
    (told.0 ∙ sym pushed, subst (λ n. 39 ≤ n) (sym pushed) told.1)))
    c.hear_next.ensures.taken
