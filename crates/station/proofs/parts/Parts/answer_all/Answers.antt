use Rattle.station.proofs.Common.{◌≡◌, ◌+◌, ◌∷◌, ◌++◌, [], List, take, sym, ◌∙◌, ap, subst, take_more, AgwMessage}
use Rattle.station.proofs.Common.{AreAnswered}
use Rattle.station.proofs.AnswerLemmas.{answered-more}
use Rattle.station.proofs.parts.Parts.answer_all.Goals as goal

pub loop-message-preserved : goal.loop-message-preserved
loop-message-preserved c = record {
  step = λ turn shows.
      let messages = c.args.messages.now in
      let i = c.loop-message.message-index in
      let so_far = c.loop-message.invariant.step turn shows in
      let next = c.in_ok-answer.ensures.step so_far.0 so_far.2 in
      let more : take i messages ++ c.message-item.result ∷ [] ≡ take (i + 1) messages =
      ap (λ (message : AgwMessage). take i messages ++ message ∷ []) c.message-item.is
      ∙ sym (take_more messages i c.message-item.result c.loop-message-test.true) in (
        next.0,
        subst (λ (all : List AgwMessage). AreAnswered c.args.id all turn next.0) more
            (answered-more c.args.id (take i messages) c.message-item.result turn so_far.0 next.0 so_far.1 next.1),
        next.2,
      );
  ids = λ ids is. c.in_ok-answer.ensures.ids ids (c.loop-message.invariant.ids ids is);
}
