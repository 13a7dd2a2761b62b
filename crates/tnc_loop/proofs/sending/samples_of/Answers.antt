use Rattle.tnc_loop.proofs.Common.{Err, ap, ◌∙◌}
use Rattle.tnc_loop.proofs.SendingLemmas.{no_bad_length}
use Rattle.tnc_loop.proofs.sending.samples_of.Goals as goal

pub unreachable-requires-in-Err-BadLength : goal.unreachable-requires-in-Err-BadLength
unreachable-requires-in-Err-BadLength c =
    let first = (c.transmission.ensures.bad_length c.in-Err-BadLength.field-0-0).0 (c.in-Err-BadLength.is
    ∙ ap Err c.in-Err-BadLength.field-0-is) in
    no_bad_length c.args.drawn.now.octets c.from_ref-frames.result.now c.in-Err-BadLength.field-0-0
    c.from_ref-frames.ensures.value c.requires.least c.requires.most first.1
