use Rattle.hf_tracking.proofs.CorrelationLemmas.{begins_at}
use Rattle.hf_tracking.proofs.correlation.phase_of.Goals as goal

pub returns-clause-phase : goal.returns-clause-phase
returns-clause-phase c = λ k. begins_at c.args.bank c.from.result c.args.place k c.from.ensures
