use Rattle.tnc_encode.proofs.Common.{subst, HasTaken, IsReader}
use Rattle.tnc_encode.proofs.MakingLemmas.{bad_lines}
use Rattle.tnc_encode.proofs.frame_in.FrameIn.take.Goals as goal

pub returns-in-Lines-clause-bad : goal.returns-in-Lines-clause-bad
returns-in-Lines-clause-bad c = λ form before fault h is.
    bad_lines form c.in-Lines.lines before c.args.octets.now fault (subst IsReader c.in-Lines.is c.requires.reader)
    (subst (λ r. HasTaken form r before) c.in-Lines.is h)
    (λ stands. c.take.ensures.bad before fault stands is)
