use Rattle.link_machine.proofs.Common.{◌≡◌, sym, ◌∙◌, ap, subst, cond-true, cond-false, Control, Idle, Made, Room, Shows, Turn}
use Rattle.link_machine.proofs.Common.{answer_xid, begin, hear_xid_idle, settled, widest_parameters}
use Rattle.link_machine.specs.Sent.{xid_octets}
use Rattle.link_machine.proofs.Events.{shows_begin, made_unsettled, is_up}
use Rattle.link_machine.proofs.machine.Machine.hear_xid_idle.Goals.{then-command, else-command}
use Rattle.link_machine.proofs.machine.Machine.hear_xid_idle.Goals as goal

pub returns : goal.returns
returns c = λ m h.
    let held = c.args.self.now in
    let t : Turn = begin m in
    let begun = shows_begin held m c.in_ok-room.room _ _ c.in_ok-room.ensures h in
    let state : m.control.state ≡ Idle = sym (ap (λ (x : Control). x.state) h.stands.control) ∙ c.requires.state in
    let heard : Turn = hear_xid_idle c.args.command c.args.flag t in
    let P : Turn → Type 0 = λ u. Made (settled u) held c.finish.result in
    elim c.if-command.branch [
      | then-command w ↦
          let answer = c.in_ok-answer.ensures ∙ ap xid_octets (c.widest_parameters-own.ensures.own m h) in
          let sent = w.send_xid.ensures.shows t (widest_parameters m) begun answer in
          let R : Room → Type 0 = λ r. Shows held r (answer_xid c.args.flag t) in
          subst P (sym (cond-true c.args.command (answer_xid c.args.flag t) t w.if-command.true))
          (made_unsettled held c.if-command.room (answer_xid c.args.flag t) c.finish.result
          (subst R (sym w.room-is) sent) (ap is_up state) c.finish.ensures.frames c.finish.ensures.told)
      | else-command w ↦
          let R : Room → Type 0 = λ r. Shows held r t in
          subst P (sym (cond-false c.args.command (answer_xid c.args.flag t) t w.if-command.false))
          (made_unsettled held c.if-command.room t c.finish.result (subst R (sym w.room-is) begun) (ap is_up state)
          c.finish.ensures.frames c.finish.ensures.told)
    ]
