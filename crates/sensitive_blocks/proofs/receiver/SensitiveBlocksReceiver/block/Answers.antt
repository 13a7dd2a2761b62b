use Rattle.sensitive_blocks.proofs.Common.{◌≡◌, ◌+◌, ◌-◌, ◌++◌, ◌∙◌, ℤ, List, length, ap, sym, subst, refl, arith, append-nil, Heard, true}
use Rattle.sensitive_blocks.proofs.Common.{length-append}
use Rattle.sensitive_blocks.specs.Held.{HasTaken, HeldReceiver, StandsFor}
unfoldable use Rattle.sensitive_blocks.specs.Held.{last_forty}
use Rattle.sensitive_blocks.proofs.ReceiverLemmas.{forty_after, line_of, receiver_of, taken_more}
use Rattle.sensitive_blocks.proofs.receiver.SensitiveBlocksReceiver.block.Goals as goal

pub returns-clause-given : goal.returns-clause-given
returns-clause-given c = λ x given stands.
    let s = c.self.inside in
    let block : List ℤ = c.args.block.now in
    let all : List ℤ = x ++ block in
    let here = subst (λ (held : HeldReceiver). StandsFor held x given) (sym c.self.view_is) stands in
    let position = here.position in
    let next = here.next in
    let mid : HeldReceiver = receiver_of s.recent s.follower s.readings s.lanes.items s.next s.kept.items true in
    let start : List Heard = given ++ c.new-given.result.items in
    let none : given ≡ start = sym (append-nil given) ∙ ap (λ t. given ++ t) (sym c.new-given.ensures.items) in
    let before : HasTaken mid x start = subst (HasTaken mid x) none (record {
      follower = here.taken.follower;
      readings = here.taken.readings;
      lanes = here.taken.lanes;
      has_heard = here.taken.has_heard;
    }) in
    let line_is = c.deref.ensures.value ∙ c.in_ok-line.ensures in
    let there = c.in_ok-take.ensures.taken all given (taken_more mid x block start (omega arith) (omega arith) before)
    (line_of x block c.deref.result.now s.recent s.follower.position line_is here.recent position) in
    let taken = subst (λ (held : HeldReceiver). HasTaken held all (given ++ c.take.new.given.items)) (sym c.self-2.view_is)
    there in
    let size = length-append x block in
    let now_position : c.self-2.inside.follower.position ≡ length all =
    ap (λ (held : HeldReceiver). held.follower.position) c.self-2.view_is ∙ c.in_ok-take.ensures.position
    ∙ ap (λ n. n + length block) position ∙ sym size in
    let now_next : c.self-2.inside.next ≡ length all - 32 =
    ap (λ (held : HeldReceiver). held.next) c.self-2.view_is ∙ c.in_ok-take.ensures.next
    ∙ ap (λ n. n - 32) (c.in_ok-take.ensures.position ∙ ap (λ n. n + length block) position ∙ sym size) in
    record {
      spent = refl;
      position = now_position;
      next = now_next;
      recent = c.copy_from_slice.ensures.after
          ∙ forty_after x block c.deref-2.result.now s.recent (c.deref-2.ensures.value ∙ c.in_ok-line.ensures) here.recent;
      taken = record {
        follower = taken.follower;
        readings = taken.readings;
        lanes = taken.lanes;
        has_heard = record {
          heard = taken.has_heard.heard;
          are = taken.has_heard.are;
          keeps = c.forget.ensures taken.has_heard.heard c.self-2.inside.next (omega arith) taken.has_heard.keeps;
          given_is = taken.has_heard.given_is;
        };
      };
    }
