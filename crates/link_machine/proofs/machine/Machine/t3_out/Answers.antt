use Rattle.link_machine.proofs.Common.{◌≡◌, sym, ◌∙◌, ap, subst, Control, Up, silent, t3_out, Shows, LinkState}
use Rattle.link_machine.proofs.Showing.{shows_control}
use Rattle.link_machine.proofs.machine.Machine.t3_out.Goals as goal

pub returns-in-Up-clause-shows : goal.returns-in-Up-clause-shows
returns-in-Up-clause-shows c = λ room t h.
    let state : Up ≡ t.now.control.state = sym c.in-Up.is ∙ ap (λ (x : Control). x.state) h.holds.stands.control in
    let P : LinkState → Type 0 =
    λ s. Shows (record c.args.self.now { control = c.break_silence.new.self }) room (t3_out s t) in
    subst P state (shows_control silent c.args.self.now c.break_silence.new.self room t c.break_silence.ensures h)
