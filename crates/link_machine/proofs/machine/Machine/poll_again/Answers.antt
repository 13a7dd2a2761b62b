use Rattle.link_machine.proofs.Common.{◌≡◌, true, false, [], ◌∷◌, sym, ◌∙◌, ap, subst, Ended, Failed, Turn, setting}
use Rattle.link_machine.proofs.Common.{telling, in_order, answer_dm, leave, is_spent, Shows, cond-true, cond-false}
use Rattle.link_machine.proofs.Common.{to_poll}
use Rattle.link_machine.proofs.Showing.{shows_control}
use Rattle.link_machine.proofs.machine.Machine.poll_again.Goals as goal

pub returns-then-is_spent-clause-shows : goal.returns-then-is_spent-clause-shows
returns-then-is_spent-clause-shows c = λ t h.
    let spent : is_spent t.now.control ≡ true = ap is_spent (sym h.holds.stands.control) ∙ sym c.is_spent.ensures.spent
    ∙ c.if-is_spent.true in
    let P : Turn → Type 0 = λ x. Shows c.leave.new.self c.tell.new.room x in
    subst P (sym (cond-true (is_spent t.now.control) _ (setting to_poll t) spent))
    (c.tell.ensures.shows _ (c.leave.ensures.shows c.send_setup.new.room _ (c.send_setup.ensures.shows t h)))

pub returns-else-is_spent-clause-shows : goal.returns-else-is_spent-clause-shows
returns-else-is_spent-clause-shows c = λ t h.
    let spent : is_spent t.now.control ≡ false = ap is_spent (sym h.holds.stands.control) ∙ sym c.is_spent.ensures.spent
    ∙ c.if-is_spent.false in
    let P : Turn → Type 0 =
    λ x. Shows (record c.args.self.now { control = c.ask_again.new.self }) c.args.room.now x in
    subst P (sym (cond-false (is_spent t.now.control)
    (in_order (answer_dm false ∷ leave ∷ telling (Ended Failed) ∷ []) t) _ spent))
    (shows_control to_poll c.args.self.now c.ask_again.new.self c.args.room.now t c.ask_again.ensures h)
