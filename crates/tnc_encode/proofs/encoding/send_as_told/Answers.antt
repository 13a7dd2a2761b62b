use Rattle.tnc_encode.proofs.Common.{sym, ap, signal_of, written_as}
use Rattle.tnc_encode.proofs.WritingLemmas.{writes_same}
use Rattle.tnc_encode.proofs.encoding.send_as_told.Goals as goal

pub returns-in-Raw-clause-writes : goal.returns-in-Raw-clause-writes
returns-in-Raw-clause-writes g c =
    writes_same _ _ _ _ _ (ap (λ form. written_as form (signal_of c.args.words c.args.frames.now)) (sym c.in-Raw.is))
    c.send_all.ensures.writes

pub returns-in-Wav-clause-writes : goal.returns-in-Wav-clause-writes
returns-in-Wav-clause-writes g c =
    writes_same _ _ _ _ _ (ap (λ form. written_as form (signal_of c.args.words c.args.frames.now)) (sym c.in-Wav.is))
    c.send_wav.ensures.writes
