use Rattle.station.proofs.Common.{◌≡◌, ◌∙◌, Bool, true, List, ℕ, None, Option, Some, ap, cond, sym, subst, OnOk, Shows, Turn}
use Rattle.hdlc_framer.specs.FrameLength.{has_frame_length}
use Rattle.station.specs.Kiss.{queueing_asked}
use Rattle.station.specs.Turn.{nothing, queueing_for}
use Rattle.station.specs.declared.asker.Asker.{Asker}
use Rattle.station.proofs.parts.Parts.queue_asked.Goals as goal

pub returns-clause-shows : goal.returns-clause-shows
returns-clause-shows c = λ turn shows.
    let asker : Option Asker = Some c.args.asker in
    let octets = c.args.octets.now in
    let long : has_frame_length octets ≡ true = sym c.has_frame_length.ensures ∙ c.if-not-has_frame_length.false in
    let same : queueing_asked c.args.asker.id c.args.asker.mark octets turn
    ≡ queueing_for (Some c.args.asker.id) asker None c.in_ok-frame.frame turn =
    ap (λ (b : Bool). (cond b (queueing_for (Some c.args.asker.id) asker None octets) nothing) turn) long
    ∙ ap (λ (copied : List ℕ). queueing_for (Some c.args.asker.id) asker None copied turn) (sym c.in_ok-frame.ensures.copy) in
    subst (λ (following : Turn). OnOk c.queue_for.result (Shows c.queue_for.new.self c.queue_for.new.out following)) (sym same)
    (c.queue_for.ensures.shows turn shows)
