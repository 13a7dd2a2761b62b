use Rattle.tnc_decode.proofs.Common.{arith}
use Rattle.tnc_decode.proofs.hearing.HearingMaker.finish.Goals as goal

pub end-requires : goal.end-requires
end-requires g c =
    let held = c.requires.held in
    let position = held.2.0.position in
    let fits = held.3 in
    record { room = omega (arith, position, fits) }
