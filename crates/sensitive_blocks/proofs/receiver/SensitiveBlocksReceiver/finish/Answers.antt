use Rattle.sensitive_blocks.proofs.Common.{◌≡◌, ◌+◌, ◌++◌, ◌∙◌, List, ap, sym, subst, append-nil, Heard, true}
use Rattle.sensitive_blocks.specs.Held.{HasTaken, HeldReceiver, StandsFor}
use Rattle.sensitive_blocks.proofs.ReceiverLemmas.{merged_all, receiver_of}
use Rattle.sensitive_blocks.proofs.receiver.SensitiveBlocksReceiver.finish.Goals as goal

pub returns-clause-rest : goal.returns-clause-rest
returns-clause-rest c = λ x given stands.
    let s = c.self.inside in
    let here = subst (λ (held : HeldReceiver). StandsFor held x given) (sym c.self.view_is) stands in
    let mid : HeldReceiver = receiver_of s.recent s.follower s.readings s.lanes.items s.next s.kept.items true in
    let start : List Heard = given ++ c.new-given.result.items in
    let none : given ≡ start = sym (append-nil given) ∙ ap (λ t. given ++ t) (sym c.new-given.ensures.items) in
    let before : HasTaken mid x start = subst (HasTaken mid x) none (record {
      follower = here.taken.follower;
      readings = here.taken.readings;
      lanes = here.taken.lanes;
      has_heard = here.taken.has_heard;
    }) in
    merged_all c.hear_rest.new.self x (given ++ c.hear_rest.new.given.items)
    (c.in_ok-hear_rest.ensures.next ∙ ap (λ n. n + 1) here.position)
    (c.in_ok-hear_rest.ensures.taken x given before here.position here.recent)
