use Rattle.link_machine.proofs.Common.{◌≡◌, sym, ◌∙◌, subst, hear_info_by, Shows, Mode}
use Rattle.selective_reject.specs.declared.window.Mode.TheVariants.{Rej as RejMode, Srej as SrejMode}
use Rattle.link_machine.proofs.machine.Machine.take_by_mode.Goals as goal

pub returns-in-Rej-clause-shows : goal.returns-in-Rej-clause-shows
returns-in-Rej-clause-shows c = λ t h.
    let mode : t.now.incoming.mode ≡ RejMode = sym h.holds.stands.incoming.mode ∙ sym c.mode.ensures ∙ c.in-Rej.is in
    let P : Mode → Type 0 = λ m. Shows c.take_by_rej.new.self c.take_by_rej.new.room
    (hear_info_by m c.args.ns c.args.packet t) in
    subst P (sym mode) (c.take_by_rej.ensures.shows t h mode)

pub returns-in-Srej-clause-shows : goal.returns-in-Srej-clause-shows
returns-in-Srej-clause-shows c = λ t h.
    let mode : t.now.incoming.mode ≡ SrejMode = sym h.holds.stands.incoming.mode ∙ sym c.mode.ensures ∙ c.in-Srej.is in
    let P : Mode → Type 0 = λ m. Shows c.take_by_srej.new.self c.take_by_srej.new.room
    (hear_info_by m c.args.ns c.args.packet t) in
    subst P (sym mode) (c.take_by_srej.ensures.shows t h)
