use Rattle.station.proofs.Common.{◌≡◌, ◌+◌, take, sym, ◌∙◌, ap, subst, KissItem, heeding, heeding_all, Shows, Turn}
use Rattle.station.proofs.TurnLemmas.{in_order-more}
use Rattle.station.proofs.parts.Parts.heed_all.Goals as goal

pub loop-item-preserved : goal.loop-item-preserved
loop-item-preserved c = record {
  shows = λ turn shows.
      let items = c.args.items.now in
      let i = c.loop-item.item-index in
      let id = c.args.id in
      let before : Turn = heeding_all id (take i items) turn in
      let more : heeding_all id (take (i + 1) items) turn ≡ heeding id c.item-item.result before =
      in_order-more (heeding id) items i c.item-item.result turn c.loop-item-test.true
      ∙ ap (λ (item : KissItem). heeding id item before) (sym c.item-item.is) in
      subst (λ (following : Turn). Shows c.heed.new.self c.heed.new.out following) (sym more)
      (c.in_ok-heed.ensures.shows before (c.loop-item.invariant.shows turn shows));
  ids = c.in_ok-heed.ensures.ids ∙ c.loop-item.invariant.ids;
  closed = c.in_ok-heed.ensures.closed ∙ c.loop-item.invariant.closed;
}
