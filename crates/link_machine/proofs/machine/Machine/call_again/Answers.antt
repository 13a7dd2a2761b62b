use Rattle.link_machine.proofs.Common.{◌≡◌, false, sym, ◌∙◌, ap, subst, Failed, Turn, setting, end_call, retried}
use Rattle.link_machine.proofs.Common.{is_spent, falls_back, fall_back, Shows, cond-false}
use Rattle.link_machine.proofs.Showing.{shows_control}
use Rattle.link_machine.proofs.machine.Machine.call_again.Goals as goal

pub returns-else-falls_back-clause-shows : goal.returns-else-falls_back-clause-shows
returns-else-falls_back-clause-shows c = λ t h.
    let spent : is_spent t.now.control ≡ false = ap is_spent (sym h.holds.stands.control) ∙ sym c.is_spent.ensures.spent
    ∙ c.if-is_spent.false in
    let falls : falls_back t.now ≡ false = sym (c.falls_back.ensures t.now h.holds) ∙ c.if-falls_back.false in
    let retry = shows_control retried c.args.self.now c.retry.new.self c.args.room.now t c.retry.ensures h in
    let P : Turn → Type 0 = λ x. Shows (record c.args.self.now { control = c.retry.new.self }) c.send_call.new.room x in
    subst P (sym (cond-false (is_spent t.now.control) (end_call Failed t) _ spent
    ∙ cond-false (falls_back t.now) (fall_back t) _ falls))
    (c.send_call.ensures.shows (setting retried t) retry)
