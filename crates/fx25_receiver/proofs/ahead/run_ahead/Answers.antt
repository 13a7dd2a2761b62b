use Rattle.fx25_receiver.proofs.Common.{◌+◌, ◌%◌, ◌++◌, ℤ, List, true, refl, ap, sym, subst, ◌∙◌, arith}
use Rattle.fx25_receiver.proofs.Common.{drop, HeldLane, KnowsNumbers, LaneStandsFor}
use Rattle.std.proofs.Common.{not, get_or-set_other}
use Rattle.std.proofs.lemmas.List.{length-set}
unfoldable use Rattle.slicer_bank.specs.Heard.{tones_in}
use Rattle.fx25_receiver.proofs.AheadLemmas.{all_wait, eight_more, eight_tones_in, one_tried, waits_all}
use Rattle.fx25_receiver.proofs.ahead.run_ahead.Goals as goal

pub loop-offset-init : goal.loop-offset-init
loop-offset-init c = record {
  size = c.requires.lanes;
  waiting_size = refl;
  waits = λ o least. waits_all 8 o;
  ahead = λ kept x given last after.
      all_wait c.args.lanes.now.items c.args.position kept x (x ++ drop 7 c.args.stretch.now) given after;
}

pub loop-offset-preserved : goal.loop-offset-preserved
loop-offset-preserved c =
    let inv = c.loop-offset.invariant in
    let offset = c.loop-offset.offset in
    let stretch : List ℤ = c.args.stretch.now in
    let first = c.first_of-first.result in
    let windows : List ℤ = c.windows_from.result.now in
    let inside = c.loop-offset-test.true in
    record {
      size = length-set c.loop-offset.lanes.items offset c.push_windows-ahead.new.self ∙ inv.size;
      waiting_size = length-set c.loop-offset.waiting offset (not c.push_windows-ahead.result) ∙ inv.waiting_size;
      waits = λ o past. get_or-set_other c.loop-offset.waiting offset o (not c.push_windows-ahead.result) true (omega arith)
          ∙ inv.waits o (omega arith);
      ahead = λ kept x given last after.
          let count = after.count in
          let seven = c.requires.seven in
          one_tried c.loop-offset.lanes.items c.args.position kept c.loop-offset.waiting x (drop 7 stretch) given
          (inv.ahead kept x given last after) c.push_windows-ahead.result offset c.index_mut-lane.result.now
          c.push_windows-ahead.new.self (tones_in 8 windows) inv.size inv.waiting_size inside (inv.waits offset (omega arith))
          (eight_more x stretch windows offset first (omega arith) c.told-stretch last inside c.first_of-first.ensures.small
          (c.first_of-first.ensures.place ∙ ap (λ n. (n + 1 + first) % 8) count) c.windows_from.ensures)
          (eight_tones_in windows)
          (λ tones stands. c.push_windows-ahead.ensures.taken tones (subst (λ (lane : HeldLane). LaneStandsFor lane tones)
          (sym c.index_mut-lane.ensures.value) stands))
          (λ tones stands. c.push_windows-ahead.ensures.quiet tones (subst (λ (lane : HeldLane). LaneStandsFor lane tones)
          (sym c.index_mut-lane.ensures.value) stands))
          (λ tones stands. c.push_windows-ahead.ensures.left tones (subst (λ (lane : HeldLane). LaneStandsFor lane tones)
          (sym c.index_mut-lane.ensures.value) stands))
          (λ numbers more known. c.push_windows-ahead.ensures.knows numbers more
          (subst (λ (lane : HeldLane). KnowsNumbers lane.reader lane.certainties numbers)
          (sym c.index_mut-lane.ensures.value) known))
          (λ numbers known. c.push_windows-ahead.ensures.knows_left numbers
          (subst (λ (lane : HeldLane). KnowsNumbers lane.reader lane.certainties numbers)
          (sym c.index_mut-lane.ensures.value) known));
    }
