use Rattle.std.proofs.Common.{◌≡◌, ◌+◌, ◌∙◌, ℤ, List, ◌++◌, ap, sym, subst, length, length-append}
use Rattle.block_receiver.specs.HeldReceiver.{Held, StandsFor}
use Rattle.block_receiver.specs.MergedItems.{AreMergedBetween}
use Rattle.block_receiver.proofs.ReceiverLemmas.{merged_more}
use Rattle.block_receiver.proofs.receiver.Receiver.block_by.Goals as goal

pub returns-clause-given : goal.returns-clause-given
returns-clause-given g c =
    let hearing = g.L.Lanes.hearing in
    let block : List ℤ = c.args.block.now in
    let now : Held g.row.L.Denot = record {
      lanes = c.hear.new.lanes;
      merger = c.merge_found.new.merger;
      position = c.take.new.self.position;
      finished = c.take.new.self.finished;
      spent = c.take.new.self.spent;
    } in
    let P : Held g.row.L.Denot → Type 0 = λ old. (x : List ℤ) → StandsFor hearing old x → StandsFor hearing now (x ++ block)
    × AreMergedBetween hearing.Heard (hearing.settled (length x)) (hearing.settled (length (x ++ block)))
    (x ++ block) c.in_ok-items.items.items in
    subst P c.self.view_is (λ x h.
    let size : c.begin.new.self.position ≡ length x = c.begin.ensures.position ∙ h.count in
    let all : c.begin.new.self.position + length block ≡ length (x ++ block) =
    ap (λ n. n + length block) size ∙ sym (length-append x block) in
    let heard = c.in_ok-found.ensures.heard x h.lanes in
    let more = merged_more hearing c.laws.ensures x block c.self.inside.merger c.merge_found.new.merger
    c.in_ok-found.found.items c.in_ok-items.items.items c.settled-mark.result h.merged heard.1
    (c.settled-mark.ensures ∙ ap hearing.settled all)
    c.in_ok-items.ensures.merged c.in_ok-items.ensures.kept in (
      record {
        spent = c.take.ensures.spent;
        finished = c.take.ensures.finished ∙ c.begin.ensures.finished ∙ h.finished;
        count = c.take.ensures.position ∙ all;
        lanes = heard.0;
        merged = more.0;
      },
      more.1,
    ))
