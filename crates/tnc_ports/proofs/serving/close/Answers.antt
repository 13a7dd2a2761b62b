use Rattle.tnc_ports.proofs.Common.{◌≡◌, true, All, ℤ, Some, Option, Reader, ◌++◌, ◌∷◌, [], ap, map, subst, sym, ◌∙◌, ℕ}
use Rattle.tnc_ports.proofs.Common.{answers_of, map-append, readers_in, record_of, reader_ring, ring_id, StandsIn}
use Rattle.std.proofs.Common.{List}
use Rattle.std.proofs.lemmas.List.Elements.{All-push}
use Rattle.sample_ring.specs.Ends.{records_of, all_published}
use Rattle.tnc_ports.specs.HeldMeter.{IsSoundOf, answers_if}
use Rattle.tnc_ports.specs.ServeRun.{LanesStandIn, ring_cells}
use Rattle.tnc_ports.proofs.LiveServe.{lanes_stand}
use Rattle.tnc_ports.proofs.serving.close.Goals as goal

pub close-history-requires-clause-readers : goal.close-history-requires-clause-readers
close-history-requires-clause-readers c =
    subst (All (λ reader. reader_ring reader ≡ ring_id c.args.ring)) (sym c.rejoined-readers.ensures)
    (All-push (λ reader. reader_ring reader ≡ ring_id c.args.ring) (readers_in c.args.receiver) c.in-Some.last
    c.requires.readers (subst (IsSoundOf c.args.ring) c.in-Some.is c.requires.sound))

pub returns-clause-closed : goal.returns-clause-closed
returns-clause-closed c = λ rate input left pumps.
    let published = all_published c.args.pumped.done in
    let all : List Reader = readers_in c.args.receiver ++ c.in-Some.last ∷ [] in
    record {
      pump = c.args.pumped.end;
      published = published;
      pumped = pumps.samples;
      faults = pumps.faults;
      stand = subst (λ (sound : Option Reader). LanesStandIn published (answers_if ring_cells c.args.receiver sound))
          (sym c.in-Some.is)
          (subst (LanesStandIn published)
          (map-append (answers_of ring_cells) (readers_in c.args.receiver) (c.in-Some.last ∷ []))
          (lanes_stand published all (records_of c.close-history.result)
          (c.close-history.ensures.records ∙ ap (map record_of) c.rejoined-readers.ensures)
          (subst (λ (n : ℕ). All (StandsIn n published true) (records_of c.close-history.result)) c.requires.cells
          (subst (λ (xs : List ℤ). All (StandsIn c.args.ring.len xs true) (records_of c.close-history.result))
          c.close-history.ensures.list c.close-history.ensures.stand))));
      ends = c.end_of.ensures.end;
    }
