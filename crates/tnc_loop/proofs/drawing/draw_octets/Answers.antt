use Rattle.tnc_loop.proofs.Common.{rules, length, ap, ◌∙◌}
use Rattle.tnc_loop.proofs.DrawingLemmas.{octet_of, has_drawn_none, has_drawn_more, has_drawn_all}
use Rattle.tnc_loop.proofs.drawing.draw_octets.Goals as goal

pub loop-init : goal.loop-init
loop-init c = has_drawn_none octet_of c.args.generator.now c.args.count c.new-octets.result.items
    c.new-octets.ensures.items

pub loop-preserved : goal.loop-preserved
loop-preserved c =
    has_drawn_more octet_of c.args.generator.now c.loop.generator c.next_word.new.self c.args.count c.loop.counter
    c.next_word.result c.loop.octets.items c.push.new.self.items
    c.loop.invariant (search rules) c.next_word.ensures c.in_ok-push.ensures.items

pub returns-clause-octets : goal.returns-clause-octets
returns-clause-octets c =
    c.in_ok-from_slice.ensures ∙ c.deref.ensures.value
    ∙ (has_drawn_all octet_of c.args.generator.now c.loop.generator c.args.count c.loop.counter c.loop.octets.items
    c.loop.invariant (search rules)).0

pub returns-clause-count : goal.returns-clause-count
returns-clause-count c =
    let all = has_drawn_all octet_of c.args.generator.now c.loop.generator c.args.count c.loop.counter
    c.loop.octets.items c.loop.invariant (search rules) in
    ap length (c.in_ok-from_slice.ensures ∙ c.deref.ensures.value) ∙ all.1

pub returns-clause-following : goal.returns-clause-following
returns-clause-following c =
    (has_drawn_all octet_of c.args.generator.now c.loop.generator c.args.count c.loop.counter c.loop.octets.items
    c.loop.invariant (search rules)).2
