use Rattle.link_machine.proofs.Common.{◌≡◌, length, refl, arith, after_push, Turn, begin, changing, settled, IsErr}
use Rattle.link_machine.specs.Requests.{joined}
use Rattle.link_machine.proofs.Showing.{shows_changing, holds_outgoing}
use Rattle.link_machine.proofs.Events.{shows_begin, made}
use Rattle.link_machine.proofs.Answered.{on_ok}
use Rattle.link_machine.proofs.machine.Machine.take_packet.Goals as goal

pub returns : goal.returns
returns c = λ m h.
    let begun = shows_begin c.args.self.now m c.in_ok-room.room _ _ c.in_ok-room.ensures h in
    let not_full : (IsErr c.push.result → ⊥) = λ e. let full : length c.args.self.now.outgoing.packets ≡ 1024 =
    c.push.ensures.full.0 e in omega (arith, c.requires.room) in
    let pushed = on_ok c.push.result _ not_full (c.push.ensures.stands_for m.outgoing h.stands.outgoing) in
    let t : Turn = changing (joined c.args.packet) (begin m) in
    let shown = shows_changing (joined c.args.packet) c.args.self.now _ c.in_ok-room.room (begin m) refl begun
    (holds_outgoing c.args.self.now m c.push.new.self (after_push c.args.packet m.outgoing)
    h c.push.ensures.formed pushed) in
    made c.settle.new.self c.settle.new.room (settled t) c.finish.result (c.settle.ensures.shows t shown)
    c.finish.ensures.frames c.finish.ensures.told
