use Rattle.link_machine.proofs.Common.{◌≡◌, is_some, if◌then◌else◌, sym, ◌∙◌, ap, subst, Control, LinkState, Outgoing}
use Rattle.link_machine.proofs.Common.{Machine, Turn, begin, back, left_with, is_asked_again, notice_passed, send_frame}
use Rattle.link_machine.proofs.Common.{seize_in, settled, Made}
use Rattle.link_machine.specs.Machine.{with_control}
use Rattle.link_machine.proofs.Events.{itself, holds_itself, shows_begin, made}
use Rattle.link_machine.proofs.Noticing.{noticed}
use Rattle.link_machine.proofs.machine.Machine.seize_up.Goals as goal

pub send_frame-requires-clause-formed : goal.send_frame-requires-clause-formed
send_frame-requires-clause-formed c =
    let held = c.args.self.now in
    (c.notice.ensures.holds (itself held) (holds_itself held c.requires.formed)).formed

pub returns : goal.returns
returns c = λ m h.
    let held = c.args.self.now in
    let control : m.control ≡ held.control = sym h.stands.control in
    let again : c.is_some.result ≡ is_asked_again m =
    c.is_some.ensures ∙ ap is_some (c.first_again.ensures.stands_for m.outgoing h.stands.outgoing) in
    let t : Turn = notice_passed c.args.full (begin m) in
    let seen : Machine = left_with (if c.notice_passed-goes_back.result then back m.outgoing else m.outgoing)
    (with_control c.notice_passed-goes_back.new.self m) in
    let with : Control → Outgoing → Turn = λ x o. begin (left_with o (with_control x m)) in
    let same : t ≡ begin seen = noticed c.args.full m
    ∙ ap (λ x. with x t.now.outgoing) (sym (c.notice_passed-goes_back.ensures.control m control again))
    ∙ ap (λ o. with c.notice_passed-goes_back.new.self o) (c.notice_passed-goes_back.ensures.outgoing m control again) in
    let begun = shows_begin c.notice.new.self seen c.in_ok-room.room _ _ c.in_ok-room.ensures (c.notice.ensures.holds m h)
    in
    let sent = c.send_frame.ensures.shows (begin seen) begun (c.in_ok-packet.ensures m h) in
    let u : Turn = send_frame c.args.last c.args.full (begin seen) in
    let done = made c.settle.new.self c.settle.new.room (settled u) c.finish.result (c.settle.ensures.shows u sent)
    c.finish.ensures.frames c.finish.ensures.told in
    let P : Turn → Type 0 =
    λ x. Made (settled (send_frame c.args.last c.args.full x)) c.settle.new.self c.finish.result in
    let S : LinkState → Type 0 =
    λ s. Made (settled (seize_in s c.args.last c.args.full (begin m))) c.settle.new.self c.finish.result in
    subst S (sym c.requires.state ∙ ap (λ (x : Control). x.state) h.stands.control) (subst P (sym same) done)
