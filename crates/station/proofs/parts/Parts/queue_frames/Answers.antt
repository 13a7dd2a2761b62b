use Rattle.station.proofs.Common.{◌≡◌, ◌+◌, ℕ, List, take, Some, sym, ◌∙◌, ap, subst, frame_octets, queueing_frames}
use Rattle.station.proofs.Common.{Shows, Turn, queueing}
use Rattle.link_machine.specs.declared.acts.SentFrame.{SentFrame}
use Rattle.station.specs.LinkEvents.{queueing_frame}
use Rattle.station.proofs.TurnLemmas.{in_order-more}
use Rattle.station.proofs.parts.Parts.queue_frames.Goals as goal

pub loop-sent-preserved : goal.loop-sent-preserved
loop-sent-preserved c = record {
  shows = λ turn shows.
      let frames = c.args.frames.now in
      let i = c.loop-sent.sent-index in
      let key = c.args.key in
      let before : Turn = queueing_frames key (take i frames) turn in
      let octets : c.in_ok-octets.octets ≡ frame_octets c.sent-item.result.modulus c.sent-item.result.frame =
      c.in_ok-octets.ensures.octets in
      let more : queueing_frames key (take (i + 1) frames) turn ≡ queueing (Some key) c.in_ok-octets.octets before =
      in_order-more (queueing_frame key) frames i c.sent-item.result turn c.loop-sent-test.true
      ∙ ap (λ (sent : SentFrame). queueing_frame key sent before) (sym c.sent-item.is)
      ∙ ap (λ (spelled : List ℕ). queueing (Some key) spelled before) (sym octets) in
      subst (λ (following : Turn). Shows c.queue.new.self c.queue.new.out following) (sym more)
      (c.in_ok-queue.ensures.shows before (c.loop-sent.invariant.shows turn shows));
  ids = c.in_ok-queue.ensures.ids ∙ c.loop-sent.invariant.ids;
  closed = c.in_ok-queue.ensures.closed ∙ c.loop-sent.invariant.closed;
}
