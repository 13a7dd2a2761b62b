use Rattle.tnc_loop.proofs.Common.{rules, ◌≡◌, length, arith}
use Rattle.tnc_loop.proofs.SendingLemmas.{flags_fit, sent_more}
use Rattle.tnc_loop.proofs.sending.send.Goals as goal

pub overflow_sub-end : goal.overflow_sub-end
overflow_sub-end c =
    let fit = flags_fit c.args.sent.now (record { samples = c.extend_from_slice.new.self; ends = c.args.sent.now.ends })
    c.args.drawn c.requires.good
    c.args.samples.now c.requires.count c.in_ok-extend_from_slice.ensures.items in
    let closing = c.from.ensures in
    let count : c.len.result ≡ length c.extend_from_slice.new.self.items = search rules in
    omega arith

pub returns : goal.returns
returns c =
    let closing = c.from.ensures in
    let count : c.len.result ≡ length c.extend_from_slice.new.self.items = search rules in
    sent_more c.args.sent.now (record { samples = c.extend_from_slice.new.self; ends = c.push.new.self })
    c.args.drawn c.requires.good
    c.args.samples.now c.requires.count c.in_ok-extend_from_slice.ensures.items
    _ (omega arith) c.in_ok-push.ensures.items
