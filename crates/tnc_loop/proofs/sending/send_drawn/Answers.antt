use Rattle.tnc_loop.proofs.Common.{◌≡◌, length, ap, ◌∙◌, rules, heard_of, drawn_as}
use Rattle.tnc_loop.proofs.HeardLemmas.{length-heard}
use Rattle.tnc_loop.proofs.SendingLemmas.{sent_none, sent_next, sent_all, sent_fits}
use Rattle.tnc_loop.proofs.sending.send_drawn.Goals as goal

pub loop-init : goal.loop-init
loop-init c =
    sent_none c.args.words c.generator-generator.result (record { samples = c.new.result; ends = c.new-2.result })
    c.generator-generator.ensures c.new.ensures.items c.new-2.ensures.items

pub loop-preserved : goal.loop-preserved
loop-preserved c =
    let heard : c.deref.result.now ≡ (heard_of c.args.words.rough (drawn_as c.in_ok-drawn.drawn)
    c.draw.new.generator).samples
    = c.deref.ensures.value ∙ c.in_ok-samples.ensures.samples in
    sent_next c.args.words c.loop.counter c.loop.generator c.draw.new.generator c.samples_heard.new.generator
    c.loop.sent c.send.new.sent c.in_ok-drawn.drawn
    c.deref.result.now c.loop.invariant c.loop-test.true c.in_ok-drawn.ensures.drawn c.in_ok-drawn.ensures.following heard
    c.in_ok-samples.ensures.following c.in_ok-send.ensures

pub send-requires-clause-count : goal.send-requires-clause-count
send-requires-clause-count c =
    ap length (c.deref.ensures.value ∙ c.in_ok-samples.ensures.samples)
    ∙ length-heard c.args.words.rough (drawn_as c.in_ok-drawn.drawn) c.draw.new.generator

pub returns-clause-sent : goal.returns-clause-sent
returns-clause-sent c = sent_all c.args.words c.loop.counter c.loop.generator c.loop.sent c.loop.invariant
    c.loop-test.false

pub returns-clause-count : goal.returns-clause-count
returns-clause-count c =
    sent_fits c.args.words c.loop.sent
    (sent_all c.args.words c.loop.counter c.loop.generator c.loop.sent c.loop.invariant c.loop-test.false)
    (search rules)
