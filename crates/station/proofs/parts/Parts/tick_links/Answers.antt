use Rattle.station.proofs.Common.{map, range_with_len, sym, ◌∙◌, arith, subst, Shows, ticking_at, Turn, in_order}
use Rattle.station.proofs.TickLemmas.{all_ticked}
use Rattle.station.proofs.TurnLemmas.{in_order-next}
use Rattle.station.proofs.parts.Parts.tick_links.Goals as goal

pub loop-key-preserved : goal.loop-key-preserved
loop-key-preserved c = record {
  shows = λ turn shows.
      let before : Turn = in_order (map (ticking_at c.args.busy) (range_with_len 0 c.loop-key.key)) turn in
      subst (λ (following : Turn). Shows c.tick_link.new.self c.tick_link.new.out following)
      (sym (in_order-next (ticking_at c.args.busy) c.loop-key.key turn))
      (c.in_ok-tick_link.ensures.shows before (c.loop-key.invariant.shows turn shows));
  ids = c.in_ok-tick_link.ensures.ids ∙ c.loop-key.invariant.ids;
}

pub returns-clause-shows : goal.returns-clause-shows
returns-clause-shows c = λ turn shows.
    subst (λ (following : Turn). Shows c.loop-key.self c.loop-key.out following)
    (all_ticked c.args.busy c.loop-key.key turn (omega arith)) (c.loop-key.invariant.shows turn shows)
