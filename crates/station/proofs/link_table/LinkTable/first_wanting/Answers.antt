use Rattle.station.proofs.Common.{sym, ◌∙◌, arith}
use Rattle.std.proofs.Common.{below_more}
use Rattle.station.proofs.AskLemmas.{first_found, first_none}
use Rattle.station.proofs.link_table.LinkTable.first_wanting.Goals as goal

pub loop-key-preserved : goal.loop-key-preserved
loop-key-preserved c = λ links h.
    below_more _ _ (c.loop-key.invariant links h)
    (sym (c.wants_from.ensures links h) ∙ c.if-wants_from.false)

pub returns-then-wants_from : goal.returns-then-wants_from
returns-then-wants_from c = λ links h.
    sym (first_found c.args.start links c.loop-key.key (omega arith) (c.loop-key.invariant links h)
    (sym (c.wants_from.ensures links h) ∙ c.if-wants_from.true))

pub returns : goal.returns
returns c = λ links h.
    sym (first_none c.args.start links c.loop-key.key (omega arith) (c.loop-key.invariant links h))
