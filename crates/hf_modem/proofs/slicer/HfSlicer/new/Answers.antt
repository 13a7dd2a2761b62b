use Rattle.hf_modem.proofs.SlicerLemmas.{stands_empty}
use Rattle.hf_modem.proofs.slicer.HfSlicer.new.Goals as goal

pub returns-clause-stands_for : goal.returns-clause-stands_for
returns-clause-stands_for c = stands_empty c.args.offset c.new.result c.new-2.result c.new.ensures c.new-2.ensures.tone
