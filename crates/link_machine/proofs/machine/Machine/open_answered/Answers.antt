use Rattle.link_machine.proofs.Common.{◌≡◌, Bool, ap, sym, subst, ◌∙◌, ◌==◌, refl, Up, fresh, in_state, changing, setting}
use Rattle.link_machine.proofs.Common.{Shows, is_wide, to_ask}
use Rattle.link_machine.specs.declared.machine.Machine.{Machine as Held}
use Rattle.link_machine.proofs.Showing.{shows_control, shows_fresh}
use Rattle.link_machine.proofs.machine.Machine.open_answered.Goals as goal

pub returns-clause-shows : goal.returns-clause-shows
returns-clause-shows c = λ t h.
    let begun = shows_fresh c.args.self.now c.begin.new.self c.args.room.now t h c.begin.ensures in
    let up = shows_control (in_state Up) c.begin.new.self _ c.args.room.now (changing fresh t) refl begun in
    let opened = setting (in_state Up) (changing fresh t) in
    let wide : c.is_wide-wide.result ≡ is_wide t.now =
    c.is_wide-wide.ensures ∙ ap (λ k. k == 128) h.holds.stands.incoming.modulus in
    let asked = shows_control (to_ask c.is_wide-wide.result) _ c.to_ask.new.self c.args.room.now opened
    c.to_ask.ensures up in
    let after : Held = record c.begin.new.self { control = c.to_ask.new.self } in
    let P : Bool → Type 0 = λ b. Shows after c.args.room.now (setting (to_ask b) opened) in
    c.tell.ensures.shows _ (subst P wide asked)
