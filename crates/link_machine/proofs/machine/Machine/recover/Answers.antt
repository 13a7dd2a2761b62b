use Rattle.link_machine.proofs.Common.{◌≡◌, true, refl, sym, ◌∙◌, ap, subst, cond-true, ◌&&◌, Control, Turn, setting}
use Rattle.link_machine.proofs.Common.{after_poll, gone_back, recover_with, Shows}
use Rattle.link_machine.proofs.Showing.{shows_control, shows_changing}
use Rattle.link_machine.proofs.machine.Machine.recover.Goals as goal

pub returns-then-answers : goal.returns-then-answers
returns-then-answers c = λ room t h.
    let held = c.args.self.now in
    let poll : t.now.control.poll ≡ true = sym (ap (λ (x : Control). x.poll) h.holds.stands.control) ∙ c.if-self.true in
    let answers : (t.now.control.poll && c.args.answers) ≡ true = ap (λ p. p && c.args.answers) poll
    ∙ c.if-answers.true in
    let calm = setting (after_poll 0) t in
    let set = shows_control (after_poll 0) held c.recover.new.self room t c.recover.ensures h in
    let back = shows_changing gone_back _ c.go_back.new.self room calm refl set
    (c.go_back.ensures.holds calm.now set.holds) in
    let P : Turn → Type 0 = λ x. Shows c.go_back.new.self room x in
    subst P (sym (cond-true (t.now.control.poll && c.args.answers) (recover_with 0 t) t answers)) back
