use Rattle.channel_bench.proofs.Common.{rules, map, ap, ◌∙◌, text_of, words}
use Rattle.channel_bench.proofs.WordLemmas.{octet_of, has_drawn_none, has_drawn_more, has_drawn_all}
use Rattle.channel_bench.proofs.words.text.Goals as goal

pub loop-init : goal.loop-init
loop-init c = has_drawn_none c.new-generator.result c.args.count c.new-octets.result.items c.new-octets.ensures.items

pub loop-preserved : goal.loop-preserved
loop-preserved c =
    has_drawn_more c.new-generator.result c.loop.generator c.next_word.new.self c.args.count c.loop.counter
    c.next_word.result c.loop.octets.items c.push.new.self.items
    c.loop.invariant (search rules) c.next_word.ensures c.in_ok-push.ensures.items

pub returns : goal.returns
unfolding text_of
returns c =
    c.in_ok-text.ensures ∙ c.deref.ensures.value
    ∙ has_drawn_all c.new-generator.result c.loop.generator c.args.count c.loop.counter c.loop.octets.items
    c.loop.invariant (search rules)
    ∙ ap (λ g. map octet_of (words c.args.count g)) c.new-generator.ensures
