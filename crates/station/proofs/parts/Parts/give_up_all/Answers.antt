use Rattle.station.proofs.Common.{map, range_with_len, sym, ◌∙◌, arith, subst, giving_up, Shows, Turn, in_order}
use Rattle.station.proofs.LeaveLemmas.{all_given_up}
use Rattle.station.proofs.TurnLemmas.{in_order-next}
use Rattle.station.proofs.parts.Parts.give_up_all.Goals as goal

pub loop-key-preserved : goal.loop-key-preserved
loop-key-preserved c = record {
  shows = λ turn shows.
      let before : Turn = in_order (map (giving_up c.args.id) (range_with_len 0 c.loop-key.key)) turn in
      subst (λ (following : Turn). Shows c.give_up.new.self c.give_up.new.out following)
      (sym (in_order-next (giving_up c.args.id) c.loop-key.key turn))
      (c.in_ok-give_up.ensures.shows before (c.loop-key.invariant.shows turn shows));
  ids = c.in_ok-give_up.ensures.ids ∙ c.loop-key.invariant.ids;
  closed = c.in_ok-give_up.ensures.closed ∙ c.loop-key.invariant.closed;
}

pub returns-clause-shows : goal.returns-clause-shows
returns-clause-shows c = λ turn shows.
    subst (λ (following : Turn). Shows c.loop-key.self c.loop-key.out following)
    (all_given_up c.args.id c.loop-key.key turn (omega arith)) (c.loop-key.invariant.shows turn shows)
