use Rattle.link_machine.proofs.Common.{◌≡◌, false, sym, ◌∙◌, ap, subst, cond-true, cond-false, Turn, setting, Shows}
use Rattle.link_machine.proofs.Common.{agreed, has_done, hear_answering, hear_asking, using}
use Rattle.link_machine.specs.Negotiation.{agree}
use Rattle.link_machine.specs.Sent.{xid_octets}
use Rattle.link_machine.specs.declared.machine.Machine.{Machine as Held}
use Rattle.link_machine.proofs.Showing.{shows_control}
use Rattle.link_machine.proofs.machine.Machine.take_xid.Goals as goal

pub returns-then-not-has_done-clause-shows : goal.returns-then-not-has_done-clause-shows
returns-then-not-has_done-clause-shows c = λ t octets h own answer.
    let held = c.args.self.now in
    let flag = c.args.flag in
    let stays : has_done t.now ≡ false = sym (c.has_done.ensures t.now h.holds) ∙ c.if-not-has_done.true in
    let now = agreed octets t.now in
    let used = shows_control (using now) held c.apply.new.self c.args.room.now t
    (c.apply.ensures ∙ ap (λ a. using a held.control) own) h in
    let sent = c.send_xid.ensures.shows (setting (using now) t) now used (answer ∙ ap xid_octets own) in
    let after : Held = record held { control = c.apply.new.self } in
    let P : Turn → Type 0 = λ x. Shows after c.send_xid.new.room x in
    subst P (sym (cond-true c.args.command (hear_asking flag octets t) (hear_answering flag octets t) c.if-command.true
    ∙ cond-false (has_done t.now) t (agree flag octets t) stays)) sent
