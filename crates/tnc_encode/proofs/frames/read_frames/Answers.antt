use Rattle.tnc_encode.proofs.Common.{All, sym, subst, Hex, Kiss}
use Rattle.tnc_encode.proofs.FrameLemmas.{IsSendable, frames_of_input-sendable}
use Rattle.tnc_encode.proofs.frames.read_frames.Goals as goal

pub returns-in_ok-lines-in-Hex-clause-lengths : goal.returns-in_ok-lines-in-Hex-clause-lengths
returns-in_ok-lines-in-Hex-clause-lengths c =
    subst (All IsSendable) (sym c.in_ok-lines-in-Hex.ensures.frames) (frames_of_input-sendable Hex c.args.octets.now)

pub returns-in_ok-read_kiss_frames-in-Kiss-clause-lengths : goal.returns-in_ok-read_kiss_frames-in-Kiss-clause-lengths
returns-in_ok-read_kiss_frames-in-Kiss-clause-lengths c =
    subst (All IsSendable) (sym c.in_ok-read_kiss_frames-in-Kiss.ensures)
    (frames_of_input-sendable Kiss c.args.octets.now)
