use Rattle.tnc_record.proofs.Common.{true, All, ℤ, ◌≡◌, ◌≤◌, ap, subst, ◌∙◌, List, ℕ, [], length, arith, Reader}
use Rattle.tnc_record.proofs.Common.{StandsIn, ring_cells}
use Rattle.std.proofs.Common.{◌+◌, ◌-◌}
use Rattle.sample_ring.specs.Ends.{records_of, all_published}
use Rattle.tnc_record.proofs.EndLemmas.{all_records, all_are, records_are, rings_are, lanes_closed, recorder_closed}
use Rattle.tnc_record.proofs.recording.close.Goals as goal

-- nine readers fit
room_fits : (room capacity cut whole : ℕ) (items : List Reader) → items ≡ [] → room ≡ length items
    → cut + (whole - 9) ≡ whole → 10 ≤ capacity → room + cut ≤ capacity
room_fits room capacity cut whole items empty many nine most =
    let none : length items ≡ 0 = ap length empty in omega arith

pub close-history-requires-clause-readers : goal.close-history-requires-clause-readers
close-history-requires-clause-readers c =
    rings_are c.args.ring c.args.listening c.push_reserved.new.self.items
    (all_are c.args.listening c.args.room.items c.finish-readers.result.items c.truncate.new.self.items
    c.append.new.self.items c.push_reserved.new.self.items c.finish.result c.append.result c.requires.empty
    c.finish-readers.ensures.items c.truncate.ensures.items
    (c.append.ensures.succeeds (room_fits _ _ _ _ c.args.room.items c.requires.empty c.args.room.ok.0
    c.truncate.ensures.len c.requires.room)) c.append.ensures.items c.finish.ensures c.push_reserved.ensures.items)
    c.requires.readers

pub returns : goal.returns
returns c = λ input left recording pumps answered.
    let listening = c.args.listening in
    let published = all_published c.args.pumped.done in
    let kept : records_of c.close-history.result ≡ all_records listening =
    c.close-history.ensures.records ∙ records_are listening c.push_reserved.new.self.items
    (all_are listening c.args.room.items c.finish-readers.result.items c.truncate.new.self.items
    c.append.new.self.items c.push_reserved.new.self.items c.finish.result c.append.result c.requires.empty
    c.finish-readers.ensures.items c.truncate.ensures.items
    (c.append.ensures.succeeds (room_fits _ _ _ _ c.args.room.items c.requires.empty c.args.room.ok.0
    c.truncate.ensures.len c.requires.room)) c.append.ensures.items c.finish.ensures
    c.push_reserved.ensures.items) in
    let stand : All (StandsIn ring_cells published true) (all_records listening) =
    subst (All (StandsIn ring_cells published true)) kept
    (subst (λ (n : ℕ). All (StandsIn n published true) (records_of c.close-history.result)) c.requires.cells
    (subst (λ (xs : List ℤ). All (StandsIn c.args.ring.len xs true) (records_of c.close-history.result))
    c.close-history.ensures.list c.close-history.ensures.stand)) in
    record {
      pump = c.args.pumped.end;
      published = published;
      pumped = pumps.samples;
      faults = pumps.faults;
      lanes = lanes_closed published listening recording stand answered;
      recorded = recorder_closed published listening recording stand answered;
      ends = c.end_of.ensures;
    }
