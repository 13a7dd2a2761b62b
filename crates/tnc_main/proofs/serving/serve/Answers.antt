use Rattle.tnc_main.proofs.Common.{◌≡◌, refl, sym, ◌∙◌, outside_by, Status, Serves, code_of}
use Rattle.tnc_main.specs.declared.status.Status.TheVariants.{Memory as NoMemory}
use Rattle.tnc_main.proofs.LiveRuns as run
use Rattle.tnc_main.proofs.ServingLemmas.{in_want}
use Rattle.tnc_main.proofs.Statuses.{one_status}
use Rattle.tnc_main.proofs.serving.serve.Goals as goal

pub returns-clause-served : goal.returns-clause-served
returns-clause-served g c = (
  c.tell_end.result,
  c.code.ensures,
  record {
    end = c.serve-end.result;
    between = outside_by g.N.Ports.told g.K.KeyPort.told g.O.Sink.told g.E.Sink.told
        c.serve-end.new.live.ports c.serve-end.new.live.key c.serve-end.new.output c.serve-end.new.report;
    served = c.serve-end.ensures.served;
    told = c.tell_end.ensures _ refl;
  },
)

pub returns-clause-own : goal.returns-clause-own
returns-clause-own g c = run.own c.args.words c.code.result _ _ _ _ (returns-clause-served g c)

pub returns-clause-faultless : goal.returns-clause-faultless
returns-clause-faultless g c = run.faultless c.args.words c.code.result _ _ _ _ (returns-clause-served g c)

pub returns-clause-read_fault : goal.returns-clause-read_fault
returns-clause-read_fault g c = run.read_fault c.args.words c.code.result _ _ _ _ (returns-clause-served g c)

pub returns-clause-write_fault : goal.returns-clause-write_fault
returns-clause-write_fault g c = run.write_fault c.args.words c.code.result _ _ _ _ (returns-clause-served g c)

pub returns-clause-want : goal.returns-clause-want
returns-clause-want g c = λ three.
    let between = outside_by g.N.Ports.told g.K.KeyPort.told g.O.Sink.told g.E.Sink.told
    c.serve-end.new.live.ports c.serve-end.new.live.key c.serve-end.new.output c.serve-end.new.report in
    in_want c.args.words _ _ _ between _ c.tell_end.result _ _ c.serve-end.result
    (c.serve-end.ensures.served, c.tell_end.ensures between refl) c.serve-end.ensures.no_thread
    c.serve-end.ensures.thread (one_status c.tell_end.result NoMemory (sym c.code.ensures ∙ three))

pub returns-clause-no_port : goal.returns-clause-no_port
returns-clause-no_port g c = run.no_port c.args.words c.code.result _ _ _ _ (returns-clause-served g c)

pub returns-clause-complete : goal.returns-clause-complete
returns-clause-complete g c = run.complete c.args.words c.code.result _ _ _ _ (returns-clause-served g c)

pub returns-clause-not_called : goal.returns-clause-not_called
returns-clause-not_called g c = run.not_called c.args.words c.code.result _ _ _ _ (returns-clause-served g c)
