use Rattle.link_machine.proofs.Common.{◌≡◌, ℕ, Bool, true, false, refl, sym, ◌∙◌, ap, subst, Some, None, Control, Turn}
use Rattle.link_machine.proofs.Common.{setting, runs_out, lowered, with_t1, tick_t1_of, Shows, cond-true, le-leb}
use Rattle.link_machine.proofs.Common.{Option, wants}
use Rattle.std.specs.Prelude.{◌||◌}
use Rattle.link_machine.proofs.Showing.{shows_control}
use Rattle.link_machine.proofs.machine.Machine.tick_t1.Goals as goal

pub returns-in_default-clause-shows : goal.returns-in_default-clause-shows
returns-in_default-clause-shows c = λ t h.
    let off : None ≡ t.now.control.t1 = sym c.in_default.is ∙ ap (λ (x : Control). x.t1) h.holds.stands.control in
    let P : Option ℕ → Type 0 = λ o. Shows c.tick_t3.new.self c.args.room.now
    (tick_t1_of o (c.args.still || wants t.now) t) in
    subst P off (c.tick_t3.ensures.shows c.args.room.now t h)

pub returns-clause-shows : goal.returns-clause-shows
returns-clause-shows c = λ t h.
    let timer : Some c.in-Some.left ≡ t.now.control.t1 = sym c.in-Some.is
    ∙ ap (λ (x : Control). x.t1) h.holds.stands.control in
    let wanted : wants t.now ≡ false = sym (c.wants.ensures t.now h.holds) ∙ c.if-wants.false in
    let counts : (c.args.still || wants t.now) ≡ false = ap (λ s. s || wants t.now) c.if-still.false ∙ wanted in
    let out : runs_out c.in-Some.left ≡ true = le-leb c.in-Some.left 1 c.if-left-gt1.false in
    let off = shows_control (with_t1 None) c.args.self.now _ c.args.room.now t refl h in
    let shown = c.t1_out.ensures.shows (setting (with_t1 None) t) off in
    let P : Turn → Type 0 = λ x. Shows c.t1_out.new.self c.t1_out.new.room x in
    let Q : Option ℕ → Type 0 = λ o. P (tick_t1_of o (c.args.still || wants t.now) t) in
    let W : Bool → Type 0 = λ w. P (tick_t1_of (Some c.in-Some.left) w t) in
    subst Q timer (subst W (sym counts)
    (subst P (sym (cond-true (runs_out c.in-Some.left) _ (setting (with_t1 (lowered c.in-Some.left)) t) out))
    shown))
