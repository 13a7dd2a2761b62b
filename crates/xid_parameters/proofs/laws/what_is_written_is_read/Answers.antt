use Rattle.xid_parameters.proofs.WrittenRead.{written_read}
use Rattle.xid_parameters.proofs.laws.what_is_written_is_read.Goals as goal

pub returns : goal.returns
returns c = written_read
