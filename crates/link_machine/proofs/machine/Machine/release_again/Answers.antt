use Rattle.link_machine.proofs.Common.{◌≡◌, false, sym, ◌∙◌, ap, subst, Failed, Turn, setting, end_call, retried}
use Rattle.link_machine.proofs.Common.{is_spent, Shows, cond-false}
use Rattle.link_machine.proofs.Showing.{shows_control}
use Rattle.link_machine.proofs.machine.Machine.release_again.Goals as goal

pub returns-else-is_spent-clause-shows : goal.returns-else-is_spent-clause-shows
returns-else-is_spent-clause-shows c = λ t h.
    let spent : is_spent t.now.control ≡ false = ap is_spent (sym h.holds.stands.control) ∙ sym c.is_spent.ensures.spent
    ∙ c.if-is_spent.false in
    let retry = shows_control retried c.args.self.now c.retry.new.self c.args.room.now t c.retry.ensures h in
    let P : Turn → Type 0 = λ x. Shows (record c.args.self.now { control = c.retry.new.self })
    c.send_setup.new.room x in
    subst P (sym (cond-false (is_spent t.now.control) (end_call Failed t) _ spent))
    (c.send_setup.ensures.shows (setting retried t) retry)
