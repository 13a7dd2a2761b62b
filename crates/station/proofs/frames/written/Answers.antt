use Rattle.station.proofs.Common.{◌≡◌, ℕ, List, Result, Ok, Err, IfOk, OutOfMemory, Frame, Modulus, IsWrittenFrame}
use Rattle.station.proofs.Common.{frame_octets}
use Rattle.station.proofs.FrameLemmas.{frame_spelled}
use Rattle.station.proofs.MemoryLemmas.{took_if}
use Rattle.station.proofs.frames.written.Goals as goal

spelled_result : (modulus : Modulus) (frame : Frame) (result : Result (List ℕ) OutOfMemory)
    → IfOk result (IsWrittenFrame frame modulus) → IfOk result (λ octets. octets ≡ frame_octets modulus frame)
spelled_result modulus frame (Ok octets) h = frame_spelled modulus frame octets h
spelled_result modulus frame (Err fault) h = tt

pub returns-clause-octets : goal.returns-clause-octets
returns-clause-octets c =
    let spelled : List ℕ → Type 0 = λ octets. octets ≡ frame_octets c.args.modulus c.args.frame.now in
    took_if spelled c.write_frame-octets.result c.took.result c.took.ensures.value
    (spelled_result c.args.modulus c.args.frame.now c.write_frame-octets.result c.write_frame-octets.ensures.written)
