use Rattle.link_machine.proofs.Common.{◌≡◌, ◌∙◌, ap, Turn, begin, sending, setting, settled, ask_xid, asked_once}
use Rattle.link_machine.proofs.Common.{XidSent, own_parameters, true}
use Rattle.link_machine.specs.Sent.{xid_octets}
use Rattle.link_machine.proofs.Events.{shows_begin, made}
use Rattle.link_machine.proofs.Showing.{shows_control}
use Rattle.link_machine.proofs.machine.Machine.ask_xid.Goals as goal

pub returns : goal.returns
returns c = λ m h.
    let begun = shows_begin c.args.self.now m c.in_ok-room.room _ _ c.in_ok-room.ensures h in
    let sent = c.send_xid.ensures.shows (begin m) (own_parameters m) begun
    (c.in_ok-octets.ensures ∙ ap xid_octets (c.own_parameters-own.ensures.own m h)) in
    let out : Turn = sending (XidSent true true (own_parameters m)) (begin m) in
    let asked = shows_control asked_once c.args.self.now c.ask_xid.new.self c.send_xid.new.room out c.ask_xid.ensures sent
    in
    made c.settle.new.self c.settle.new.room (settled (ask_xid (begin m))) c.finish.result
    (c.settle.ensures.shows (ask_xid (begin m)) asked) c.finish.ensures.frames c.finish.ensures.told
