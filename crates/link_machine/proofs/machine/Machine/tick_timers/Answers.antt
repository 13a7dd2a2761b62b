use Rattle.link_machine.proofs.Common.{◌≡◌, false, sym, ◌∙◌, ap, subst, cond-false, Control, LinkState, Turn, Up, setting}
use Rattle.link_machine.proofs.Common.{Shows, ask_xid, asks_xid, tick_in, tick_t1, tm201_ticked}
use Rattle.link_machine.specs.Negotiation.{asks_in}
use Rattle.link_machine.proofs.Showing.{shows_control}
use Rattle.link_machine.proofs.machine.Machine.tick_timers.Goals as goal

pub returns-in-Up-clause-shows : goal.returns-in-Up-clause-shows
returns-in-Up-clause-shows c = λ t h.
    let still = c.args.still in
    let state : Up ≡ t.now.control.state = sym c.in-Up.is ∙ ap (λ (x : Control). x.state) h.holds.stands.control in
    let silent : asks_xid still t.now ≡ false =
    ap (λ s. asks_in s still t.now) state ∙ c.requires.asks_none t.now h.holds in
    let ticked = shows_control (tm201_ticked still) c.args.self.now c.tick_tm201.new.self c.args.room.now t
    c.tick_tm201.ensures h in
    let shown = c.tick_t1.ensures.shows (setting (tm201_ticked still) t) ticked in
    let P : Turn → Type 0 = λ x. Shows c.tick_t1.new.self c.tick_t1.new.room x in
    let Q : LinkState → Type 0 = λ s. P (tick_in s still t) in
    subst Q state
    (subst P (sym (cond-false (asks_xid still t.now) (ask_xid t) (tick_t1 still (setting (tm201_ticked still) t)) silent))
    shown)
