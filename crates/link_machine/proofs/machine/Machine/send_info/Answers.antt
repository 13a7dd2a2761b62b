use Rattle.link_machine.proofs.Common.{◌≡◌, ◌+◌, sym, ◌∙◌, ap, subst, Turn, changing, setting, polls, info_sent, left_with}
use Rattle.link_machine.proofs.Common.{send_info_with, Shows}
use Rattle.link_machine.proofs.Showing.{shows_control}
use Rattle.link_machine.proofs.Informing.{info_gone, info_lost}
use Rattle.link_machine.specs.declared.machine.Machine.{Machine as Held}
use Rattle.link_machine.proofs.machine.Machine.send_info.Goals as goal

pub returns-in-Some-clause-shows : goal.returns-in-Some-clause-shows
returns-in-Some-clause-shows c = λ t place left h number is.
    let u = changing (left_with left) t in
    let poll = c.polls-poll.result in
    let polled : poll ≡ polls c.args.last c.args.full (left_with left t.now) = c.polls-poll.ensures u.now h.holds in
    let after : Held = record c.args.self.now { control = c.send_info.new.self } in
    let set = shows_control (info_sent poll) c.args.self.now c.send_info.new.self c.args.room.now u c.send_info.ensures h
    in
    let sent = c.send_packet.ensures.shows (setting (info_sent poll) u) (t.now.outgoing.va + place) set number in
    let P : Turn → Type 0 = λ x. Shows after c.send_packet.new.room x in
    subst P (info_gone poll place left t c.in-Some.packet (sym is ∙ c.in-Some.is)
    ∙ ap (λ b. send_info_with b place left t) polled) sent

pub returns-in_default-clause-shows : goal.returns-in_default-clause-shows
returns-in_default-clause-shows c = λ t place left h number is.
    let u = changing (left_with left) t in
    let poll = c.polls-poll.result in
    let polled : poll ≡ polls c.args.last c.args.full (left_with left t.now) = c.polls-poll.ensures u.now h.holds in
    let after : Held = record c.args.self.now { control = c.send_info.new.self } in
    let set = shows_control (info_sent poll) c.args.self.now c.send_info.new.self c.args.room.now u c.send_info.ensures h
    in
    let P : Turn → Type 0 = λ x. Shows after c.args.room.now x in
    subst P (info_lost poll place left t (sym is ∙ c.in_default.is) ∙ ap (λ b. send_info_with b place left t) polled) set
