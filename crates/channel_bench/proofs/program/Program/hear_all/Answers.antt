-- One message after another.
use Rattle.channel_bench.proofs.Common.{sym, ◌∙◌, ap, take_all, told, told_all}
use Rattle.channel_bench.proofs.HearLemmas.{told_all_more}
use Rattle.channel_bench.proofs.program.Program.hear_all.Goals as goal

pub loop-message-preserved : goal.loop-message-preserved
loop-message-preserved c =
    c.in_ok-hear.ensures.heard ∙ ap (told c.message-item.result) c.loop-message.invariant
    ∙ sym (told_all_more c.args.messages.now c.loop-message.message-index c.message-item.result c.message-item.result
    c.args.self.now c.loop-message-test.true c.message-item.is)

pub returns-clause-heard : goal.returns-clause-heard
returns-clause-heard c =
    c.loop-message.invariant
    ∙ ap (λ xs. told_all xs c.args.self.now)
    (take_all c.loop-message.message-index c.args.messages.now c.loop-message-test.false)
