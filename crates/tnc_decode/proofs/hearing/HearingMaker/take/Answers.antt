use Rattle.tnc_decode.proofs.Common.{Err, ap, arith}
use Rattle.tnc_decode.proofs.MakingLemmas.{hears_all, hears_bad}
use Rattle.tnc_decode.proofs.hearing.HearingMaker.take.Goals as goal

pub hear-requires-sync-R : goal.hear-requires-sync-R
hear-requires-sync-R g c = λ κs lives. c.requires.held.2.1

pub hear-requires-clause-room : goal.hear-requires-clause-room
hear-requires-clause-room g c = λ κs lives.
    let held = c.requires.held in
    let position = held.2.0.position in
    let fits = held.3 in
    omega (arith, position, fits)

pub hear-requires-clause-unfinished : goal.hear-requires-clause-unfinished
hear-requires-clause-unfinished g c = λ κs lives. c.requires.held.2.0.unfinished

pub returns-in-Ok-clause-takes : goal.returns-in-Ok-clause-takes
returns-in-Ok-clause-takes g c = λ words before h.
    hears_all words _ h.1 c.hear.new.self before c.args.octets.now c.in-Ok.settled.items
    (c.in-Ok.ensures.heard words before h.0)

pub returns-in-Err-Input-clause-takes : goal.returns-in-Err-Input-clause-takes
returns-in-Err-Input-clause-takes g c = λ words before h.
    hears_bad words c.args.self.now.receiver before c.args.octets.now _ c.in-Err-Input.fault
    (c.in-Err-Input.ensures.stops words before c.in-Err-Input.fault h.0 (ap Err c.in-Err-Input.field-0-is))
    c.clear.ensures.items
