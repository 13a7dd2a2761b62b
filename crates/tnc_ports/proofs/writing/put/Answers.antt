use Rattle.tnc_ports.proofs.LiveWrites.{put_wrote}
use Rattle.tnc_ports.proofs.writing.put.Goals as goal

pub returns : goal.returns
returns g c =
    put_wrote c.args.failed.now c.is_err.result c.args.octets.now _ _ c.write.result c.if-failed.false
    c.is_err.ensures.value
    c.write.ensures.appends c.write.ensures.partly c.write.ensures.faultless c.write.ensures.failed
