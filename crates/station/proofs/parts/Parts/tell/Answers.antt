use Rattle.station.proofs.Common.{◌≡◌, ◌+◌, take, sym, ◌∙◌, ap, subst, Told, telling_to, Shows, Turn}
use Rattle.station.specs.LinkEvents.{telling_one}
use Rattle.station.proofs.TurnLemmas.{in_order-more}
use Rattle.station.proofs.parts.Parts.tell.Goals as goal

pub loop-item-preserved : goal.loop-item-preserved
loop-item-preserved c = record {
  shows = λ turn shows.
      let told = c.args.told.now in
      let i = c.loop-item.item-index in
      let one : Told → Turn → Turn = telling_one c.args.owner c.args.local.now c.args.remote.now in
      let before : Turn = telling_to c.args.owner c.args.local.now c.args.remote.now (take i told) turn in
      let more : telling_to c.args.owner c.args.local.now c.args.remote.now (take (i + 1) told) turn
      ≡ one c.item-item.result before =
      in_order-more one told i c.item-item.result turn c.loop-item-test.true
      ∙ ap (λ item. one item before) (sym c.item-item.is) in
      subst (λ (following : Turn). Shows c.args.self.now c.tell_one.new.out following) (sym more)
      (c.in_ok-tell_one.ensures.shows before (c.loop-item.invariant.shows turn shows));
  closed = c.in_ok-tell_one.ensures.closed ∙ c.loop-item.invariant.closed;
}
