use Rattle.keying.proofs.Common.{ap, sym, ◌∙◌, after_reading, after_rule, key_of, silence_marks}
use Rattle.keying.specs.Told.{turn_since}
use Rattle.keying.proofs.History.{kept_listened, stands_turned}
use Rattle.keying.proofs.machine.Keying.turn.Goals as goal

pub returns-clause-told : goal.returns-clause-told
returns-clause-told c = λ words past stands.
    c.turn_since-turn.ensures
    ∙ ap (λ k. turn_since k.phase k.ready k.last_loss c.listen.new.self) c.self.view_is
    ∙ ap (λ k. turn_since k.phase k.ready k.last_loss c.listen.new.self) stands.is
    ∙ ap (λ k. let before = key_of words past in turn_since before.phase before.ready before.last_loss k)
    (c.listen.ensures
    ∙ ap (λ k. after_rule silence_marks (after_reading c.args.now c.args.octets.now c.args.end k)) stands.is
    ∙ sym (kept_listened words c.args.now c.args.octets.now c.args.end past))

pub returns-clause-stands_for : goal.returns-clause-stands_for
returns-clause-stands_for c = λ words past stands.
    stands_turned words c.args.now c.args.octets.now c.args.end past c.args.self.now c.listen.new.self
    c.stop_if_stalled.new.self stands c.listen.ensures c.stop_if_stalled.ensures
