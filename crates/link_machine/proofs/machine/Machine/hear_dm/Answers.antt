use Rattle.link_machine.proofs.Common.{refl, begin, end_by_dm}
use Rattle.link_machine.proofs.Events.{shows_begin, made_unsettled}
use Rattle.link_machine.proofs.machine.Machine.hear_dm.Goals as goal

pub returns : goal.returns
returns c = λ m h.
    let begun = shows_begin c.args.self.now m c.in_ok-room.room _ _ c.in_ok-room.ensures h in
    made_unsettled c.end_by_dm.new.self c.end_by_dm.new.room (end_by_dm (begin m)) c.finish.result
    (c.end_by_dm.ensures.shows (begin m) begun) refl c.finish.ensures.frames c.finish.ensures.told
