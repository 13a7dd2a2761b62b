use Rattle.link_machine.proofs.Common.{refl, begin}
use Rattle.link_machine.specs.Requests.{connect}
use Rattle.link_machine.proofs.Events.{shows_begin, made_unsettled}
use Rattle.link_machine.proofs.machine.Machine.take_connect.Goals as goal

pub returns : goal.returns
returns c = λ m h.
    let begun = shows_begin c.args.self.now m c.in_ok-room.room _ _ c.in_ok-room.ensures h in
    made_unsettled c.connect.new.self c.connect.new.room (connect (begin m)) c.finish.result
    (c.connect.ensures.shows (begin m) begun) refl c.finish.ensures.frames c.finish.ensures.told
