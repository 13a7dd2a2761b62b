use Rattle.station.proofs.Common.{IsReadAs}
use Rattle.station.proofs.MemoryLemmas.{took_if}
use Rattle.station.proofs.ReadLemmas.{unread_none}
use Rattle.station.proofs.frame_hearing.frame_in.Goals as goal

pub returns-in-Err-clause-read : goal.returns-in-Err-clause-read
returns-in-Err-clause-read c =
    took_if (IsReadAs c.args.modulus c.args.octets.now) c.unread.result c.took.result c.took.ensures.value
    (unread_none c.args.modulus c.args.octets.now c.in-Err.fault c.read_frame.result c.unread.result c.in-Err.is
    c.read_frame.ensures.each_frame c.unread.ensures)
