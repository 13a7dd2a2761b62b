use Rattle.std.proofs.Common.{◌≡◌, ◌<◌, ◌^◌, ◌++◌, ℤ, List, ap, length, subst, false}
use Rattle.std.specs.Prelude.{IfOk, OnOk}
use Rattle.std.proofs.lemmas.Result.{IfOk-weaker, on_ok_weaker}
use Rattle.frame_merge.specs.declared.candidate.Candidate.{Candidate}
use Rattle.frame_merge.specs.Held.{StandsFor as MergerStandsFor}
use Rattle.frame_merge.specs.Merged.{merged}
use Rattle.frame_merge.specs.Order.{in_order}
use Rattle.block_receiver.specs.HeldReceiver.{Held, StandsFor}
use Rattle.block_receiver.specs.MergedItems.{AreMergedBetween}
use Rattle.block_receiver.proofs.ReceiverLemmas.{gives_rest, keeps_nothing}
use Rattle.block_receiver.proofs.receiver.Receiver.finish.Goals as goal

pub returns-clause-rest : goal.returns-clause-rest
returns-clause-rest g c =
    let hearing = g.L.Lanes.hearing in
    let was = c.self.inside in
    let view : Held g.row.L.Denot = record {
      lanes = was.lanes;
      merger = was.merger;
      position = was.progress.position;
      finished = was.progress.finished;
      spent = was.progress.spent;
    } in
    let P : Held g.row.L.Denot → Type 0 = λ old. IfOk c.finish.result (λ items. (x : List ℤ) → length x < 2 ^ 48
    → StandsFor hearing old x
    → AreMergedBetween hearing.Heard (hearing.settled (length x)) (hearing.past (length x)) x items.items) in
    subst P c.self.view_is (IfOk-weaker c.finish.result
    (λ items. was.progress.finished ≡ false → (puts given : List Candidate) → MergerStandsFor was.merger puts given
    → given ++ items.items ≡ merged (in_order puts))
    (λ items. (x : List ℤ) → length x < 2 ^ 48 → StandsFor hearing view x
    → AreMergedBetween hearing.Heard (hearing.settled (length x)) (hearing.past (length x)) x items.items)
    (λ items last x room h. gives_rest hearing c.laws.ensures x was.merger items.items h.merged (last h.finished))
    c.finish.ensures.rest)

pub returns-clause-nothing_held : goal.returns-clause-nothing_held
returns-clause-nothing_held g c =
    let hearing = g.L.Lanes.hearing in
    let was = c.self.inside in
    let P : Held g.row.L.Denot → Type 0 = λ old. OnOk c.finish.result ((x : List ℤ) → length x < 2 ^ 48
    → StandsFor hearing old x → length c.finish.new.merger.items ≡ 0) in
    subst P c.self.view_is (on_ok_weaker c.finish.result
    (λ kept x room h. ap length (keeps_nothing hearing c.laws.ensures x was.merger c.finish.new.merger.items room
    h.merged (kept h.finished)))
    c.finish.ensures.kept)
