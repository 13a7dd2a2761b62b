use Rattle.link_machine.proofs.Common.{◌≡◌, ℕ, true, refl, sym, ◌∙◌, ap, subst, arith, Some, None, Control, Turn}
use Rattle.link_machine.proofs.Common.{setting, runs_out, lowered, with_t3, tick_t3_of, Shows, cond-true, le-leb}
use Rattle.link_machine.proofs.Common.{Option}
use Rattle.link_machine.proofs.Showing.{shows_control}
use Rattle.link_machine.proofs.machine.Machine.tick_t3.Goals as goal

pub returns-clause-shows : goal.returns-clause-shows
returns-clause-shows c = λ room t h.
    let timer : Some c.in-Some.left ≡ t.now.control.t3 = sym c.in-Some.is
    ∙ ap (λ (x : Control). x.t3) h.holds.stands.control in
    let out : runs_out c.in-Some.left ≡ true = le-leb c.in-Some.left 1 (omega arith) in
    let off = shows_control (with_t3 None) c.args.self.now _ room t refl h in
    let shown = c.t3_out.ensures.shows room (setting (with_t3 None) t) off in
    let P : Turn → Type 0 = λ x. Shows c.t3_out.new.self room x in
    let Q : Option ℕ → Type 0 = λ o. P (tick_t3_of o t) in
    subst Q timer (subst P (sym (cond-true (runs_out c.in-Some.left) _ (setting (with_t3 (lowered c.in-Some.left)) t)
    out)) shown)
