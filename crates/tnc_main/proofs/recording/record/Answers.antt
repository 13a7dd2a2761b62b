use Rattle.tnc_main.proofs.Common.{◌≡◌}
use Rattle.tnc_main.proofs.RecordingLemmas as run
use Rattle.tnc_main.proofs.recording.record.Goals as goal

pub returns-clause-recorded : goal.returns-clause-recorded
returns-clause-recorded g c = (
  c.tell_end.result,
  c.code.ensures,
  record {
    end = c.record-end.result;
    between = g.E.Sink.told c.record-end.new.report;
    recorded = c.record-end.ensures;
    told = c.tell_end.ensures;
  },
)

pub returns-clause-own : goal.returns-clause-own
returns-clause-own g c = run.own c.args.words c.code.result _ _ _ _ _ _ (returns-clause-recorded g c)

pub returns-clause-faultless : goal.returns-clause-faultless
returns-clause-faultless g c = run.faultless c.args.words c.code.result _ _ _ _ _ _ (returns-clause-recorded g c)

pub returns-clause-read_fault : goal.returns-clause-read_fault
returns-clause-read_fault g c = run.read_fault c.args.words c.code.result _ _ _ _ _ _ (returns-clause-recorded g c)

pub returns-clause-write_fault : goal.returns-clause-write_fault
returns-clause-write_fault g c = run.write_fault c.args.words c.code.result _ _ _ _ _ _ (returns-clause-recorded g c)

pub returns-clause-no_others : goal.returns-clause-no_others
returns-clause-no_others g c = run.no_others c.args.words c.code.result _ _ _ _ _ _ (returns-clause-recorded g c)

pub returns-clause-complete : goal.returns-clause-complete
returns-clause-complete g c = run.complete c.args.words c.code.result _ _ _ _ _ _ (returns-clause-recorded g c)
