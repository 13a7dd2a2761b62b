use Rattle.link_machine.proofs.Common.{refl, begin, end_by_disc}
use Rattle.link_machine.proofs.Events.{shows_begin, made_unsettled}
use Rattle.link_machine.proofs.machine.Machine.hear_disc.Goals as goal

pub returns : goal.returns
returns c = λ m h.
    let begun = shows_begin c.args.self.now m c.in_ok-room.room _ _ c.in_ok-room.ensures h in
    made_unsettled c.end_by_disc.new.self c.end_by_disc.new.room (end_by_disc c.args.flag (begin m)) c.finish.result
    (c.end_by_disc.ensures.shows (begin m) begun) refl c.finish.ensures.frames c.finish.ensures.told
