use Rattle.sensitive_receiver.proofs.Common.{◌≡◌, ◌+◌, ◌∙◌, List, length, set, get_or, sym, subst, arith}
use Rattle.std.proofs.lemmas.List.{length-set}
use Rattle.slicer_bank.specs.ToneLanes.{HeldToneLane}
use Rattle.sensitive_receiver.specs.FixedLanes.{LaneReads, LanesRead}
use Rattle.sensitive_receiver.proofs.FixedLines.{lanes_more, lanes_none}
use Rattle.sensitive_receiver.proofs.fixed_hearing.hear_lanes.Goals as goal

pub loop-index-init : goal.loop-index-init
loop-index-init c = record {
  lanes = c.requires.lanes;
  reads = lanes_none c.args.place c.args.line.now c.args.lanes.now c.args.found.now.items;
  bounds = λ low under all. all;
}

pub loop-index-preserved : goal.loop-index-preserved
loop-index-preserved c =
    let n = c.loop-index.index in
    let place = c.args.place in
    let line = c.args.line.now in
    let lanes : List HeldToneLane = c.loop-index.lanes in
    let was : HeldToneLane = c.index-lanes-from.result in
    let lane : HeldToneLane = c.hear_line.new.lane in
    let before = c.loop-index.invariant in
    let test = c.loop-index-test.true in
    let found = c.loop-index.found.items in
    let after = c.hear_line.new.found.items in
    record {
      lanes = length-set lanes _ lane ∙ before.lanes;
      reads = subst (λ i. LanesRead (n + 1) place line c.args.lanes.now (set lanes i lane) c.args.found.now.items after)
          (sym c.from.ensures)
          (lanes_more place line n c.args.lanes.now lanes lane was c.args.found.now.items found after (omega arith)
          before.lanes before.reads
          (subst (λ i. LaneReads (8 + n) place line place (place + length line) (get_or lanes i was) lane found after)
          c.from.ensures c.in_ok-hear_line.ensures.read));
      bounds = λ low under all. c.in_ok-hear_line.ensures.bounds low under (before.bounds low under all);
    }

pub returns-clause-read : goal.returns-clause-read
returns-clause-read c =
    let past = c.loop-index-test.false in
    let most = c.loop-index.auto.index-end in
    let all : c.loop-index.index ≡ 8 = omega arith in
    subst (λ n. LanesRead n c.args.place c.args.line.now c.args.lanes.now c.loop-index.lanes c.args.found.now.items
    c.loop-index.found.items) all c.loop-index.invariant.reads
